-- What an accepted answer of the read list means: the ones of a written list are as many as the
-- plan's reads.
use mathlib.Core.Path.{◌≡◌, refl, sym, ap, ◌∙◌}
use mathlib.Core.Bool.{Bool, true, false}
use mathlib.Core.List.{List}
use Prim.Native.Nat.{ℕ, zero, suc, ◌+◌, ◌*◌, ◌≤◌}
use lib.Dec.{eqb}
use Rattle.mathematics.specs.Choice.{pick, when}
use Rattle.mathematics.specs.Lists.{is_in}
use Rattle.mathematics.specs.Sums.{total, ones_in}
use Rattle.mathematics.proofs.ChoiceLaws.{first_none}
use Rattle.liberation.specs.Sets.{is_width, plan_refusal, long_refusal}
use Rattle.liberation.specs.Plans.{plan_of, cells_read, read_count, marks_from, read_list}
use Rattle.liberation.proofs.RefusalLaws.{plan_of_lem}
use Rattle.liberation.proofs.ReadLaws.{marks_count}
use Rattle.liberation.proofs.UsedLaws.{named_numbers}
use Rattle.liberation.proofs.AcceptedLaws.{accepted_named}
use Rattle.liberation.proofs.PartPlans.{plan_accepted}
use Rattle.refusals.specs.declared.answer.Answer.{Answer}
use Rattle.refusals.proofs.AnswerLaws.{answers_none}
use Rattle.planner.specs.declared.Plan.{Plan}
use Rattle.planner.specs.PlanSays.{PlanSays}
use Rattle.planner.specs.ReadListSays.{read_list_refusal, ListSays}

-- "so the ones are as many as the count says"
pub list_ones : (p k f : ℕ) → is_width p ≡ true → k ≤ p → f ≤ k + 1 → total (read_list p k f) ≡ read_count p k f (plan_of p k f)
list_ones p k f w most h = marks_count p k f (plan_of p k f) (named_numbers p (plan_of p k f) (accepted_named p k f (plan_of p k f) (plan_accepted p k f w most h)))

-- marks are ones and zeros
pub marks_ones : (n x : ℕ) (ys : List ℕ) → ones_in (marks_from n x ys) ≡ total (marks_from n x ys)
unfolding ones_in total marks_from
marks_ones zero x ys = refl
marks_ones (suc n) x ys = ap (λ (i : ℕ). when (eqb (when (is_in x ys) 1) 1) 1 + i) (marks_ones n (suc x) ys) ∙ ap (λ (i : ℕ). i + total (marks_from n (suc x) ys)) (mark (is_in x ys))
  where
    mark : (b : Bool) → when (eqb (when b 1) 1) 1 ≡ when b 1
    mark true = refl
    mark false = refl

-- "so the ones are as many as the count says": those of the list o' that `read_list` wrote, and the
-- reads of the plan for the same disk
pub list_means : (p k f : ℕ) (o o' : List ℕ) (a : Answer) (r : Plan) → ListSays p k f o o' a → a.refusal ≡ 0 → PlanSays p k f r → ones_in o' ≡ r.reads
list_means p k f o o' a r l z q =
    let n : read_list_refusal p k f o ≡ 0 = answers_none (read_list_refusal p k f o) a l.answer z in
    let m : plan_refusal p k f ≡ 0 = (first_none (plan_refusal p k f) (long_refusal (p * (k + 2)) o) n).0 in
    let w = plan_of_lem p k f m in
    ap ones_in (l.list ∙ ap (λ (x : ℕ). pick (eqb x 0) (read_list p k f) o) n)
    ∙ marks_ones (p * (k + 2)) 0 (cells_read p k f (plan_of p k f))
    ∙ list_ones p k f w.0.width w.0.disks w.1
    ∙ sym (q.reads ∙ ap (λ (x : ℕ). pick (eqb x 0) (read_count p k f (plan_of p k f)) 0) m)
