-- The promise of the read list for accepted calls. For every number k of data disks.
use mathlib.Core.Path.{◌≡◌, sym, ap₂, ◌∙◌}
use mathlib.Core.List.{List}
use Prim.Native.Nat.{ℕ, ◌+◌, ◌*◌}
use lib.ListN.{length}
use Rattle.mathematics.specs.Choice.{first_of}
use Rattle.mathematics.proofs.ChoiceLaws.{pick_done}
use Rattle.liberation.specs.Sets.{plan_refusal}
use Rattle.liberation.specs.Plans.{read_list}
use Rattle.liberation.proofs.RefusalLaws.{long_accepted}
use Rattle.refusals.specs.declared.answer.Answer.{Answer}
use Rattle.refusals.specs.Answers.{Answers}
use Rattle.refusals.proofs.AnswerLaws.{answers_as}
use Rattle.planner.specs.ReadListSays.{read_list_refusal, ListSays}

-- an accepted call
pub list_says : (p k f : ℕ) (o o' : List ℕ) (r : Answer) → plan_refusal p k f ≡ 0 → length o ≡ p * (k + 2) → o' ≡ read_list p k f → Answers 0 r → ListSays p k f o o' r
list_says p k f o o' r e l q a =
    let z : read_list_refusal p k f o ≡ 0 = ap₂ first_of e (long_accepted (p * (k + 2)) o l) in
    record { answer = answers_as 0 (read_list_refusal p k f o) r (sym z) a; list = q ∙ pick_done (read_list_refusal p k f o) (read_list p k f) o z }
