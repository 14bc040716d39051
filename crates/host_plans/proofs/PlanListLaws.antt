-- What the first tests of `plan_list` leave.
use mathlib.Core.Path.{◌≡◌, ap₂}
use mathlib.Core.List.{List}
use Prim.Native.Nat.{ℕ, ◌+◌, ◌*◌, ◌≤◌}
use lib.ListN.{length}
use Rattle.mathematics.specs.Choice.{first_of}
use Rattle.mathematics.proofs.ChoiceLaws.{first_none}
use Rattle.liberation.specs.Limits.{InArray}
use Rattle.liberation.specs.Sets.{plan_refusal, long_refusal}
use Rattle.liberation.proofs.RefusalLaws.{plan_of_lem, long_of}
use Rattle.judge.specs.JudgeSays.{form_refusal}
use Rattle.host_plans.specs.PlanListSays.{lists_refusal}

-- none of the first refusals
pub record ListPassed (p k f : ℕ) (bs o : List ℕ) : Type 0 where
  pub array : InArray p k
  pub disk : f ≤ k + 1
  pub plan : length bs ≡ 3 * p
  pub list : length o ≡ p * (k + 2)
  pub form : form_refusal p k f bs ≡ 0

pub list_passed : (p k f : ℕ) (bs o : List ℕ) → lists_refusal p k f bs o ≡ 0 → ListPassed p k f bs o
list_passed p k f bs o e =
    let w = first_none (plan_refusal p k f) (first_of (long_refusal (3 * p) bs) (long_refusal (p * (k + 2)) o)) e in
    let v = first_none (long_refusal (3 * p) bs) (long_refusal (p * (k + 2)) o) w.1 in
    let q = plan_of_lem p k f w.0 in
    record { array = q.0; disk = q.1; plan = long_of (3 * p) bs v.0; list = long_of (p * (k + 2)) o v.1; form = ap₂ first_of w.0 v.0 }
