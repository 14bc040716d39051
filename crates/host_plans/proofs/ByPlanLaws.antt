-- What the first tests of `rebuild_by_plan` leave.
use mathlib.Core.Path.{◌≡◌, ap, ap₂, ◌∙◌}
use mathlib.Core.List.{List}
use Prim.Native.Nat.{ℕ, ◌+◌, ◌*◌, ◌≤◌, ◌<◌}
use native.Mathlib.Omega.{arith}
use lib.ListN.{length}
use Rattle.mathematics.specs.Choice.{first_of}
use Rattle.mathematics.proofs.ChoiceLaws.{first_none}
use Rattle.liberation.specs.Sets.{numbers_refusal, long_refusal}
use Rattle.liberation.proofs.RefusalLaws.{numbers_of_lem, numbers_plan, long_accepted, long_of}
use Rattle.liberation.specs.Stripes.Stripes.{stripe_long}
use Rattle.liberation.specs.Stripes.StripeLimits.{Sized}
use Rattle.judge.specs.JudgeSays.{form_refusal}
use Rattle.rebuild_one.specs.RebuildOneSays.{one_refusal}
use Rattle.host_plans.specs.RebuildByPlanSays.{call_refusal}

-- none of the first refusals
pub record Passed (p k s f : ℕ) (bs t o : List ℕ) : Type 0 where
  pub sized : Sized p k s t
  pub some : 0 < s
  pub disk : f ≤ k + 1
  pub plan : length bs ≡ 3 * p
  pub column : length o ≡ p * s
  pub form : form_refusal p k f bs ≡ 0

pub passed : (p k s f : ℕ) (bs t o : List ℕ) → call_refusal p k s f bs t o ≡ 0 → Passed p k s f bs t o
passed p k s f bs t o e =
    let lengths : ℕ = first_of (long_refusal (stripe_long p k s) t) (long_refusal (p * s) o) in
    let w = first_none (numbers_refusal p k s f) (first_of (long_refusal (3 * p) bs) lengths) e in
    let v = first_none (long_refusal (3 * p) bs) lengths w.1 in
    let u = first_none (long_refusal (stripe_long p k s) t) (long_refusal (p * s) o) v.1 in
    let q = numbers_of_lem p k s f w.0 in
    record {
      sized = record { array = q.0; small = omega (arith, q.2); long = long_of (stripe_long p k s) t u.0 };
      some = q.1;
      disk = q.3;
      plan = long_of (3 * p) bs v.0;
      column = long_of (p * s) o u.1;
      form = ap₂ first_of (numbers_plan p k s f w.0) v.0;
    }

-- past a first test that does not refuse
pub past : (n a b : ℕ) → a ≡ 0 → n ≡ first_of a b → n ≡ b
past n a b z e = e ∙ ap (λ (x : ℕ). first_of x b) z

-- a call that `rebuild_one` would accept, with a plan of the right length, is refused by none of
-- the first tests
pub no_refusal : (p k s f : ℕ) (bs t o : List ℕ) → length bs ≡ 3 * p → one_refusal p k s f t o ≡ 0 → call_refusal p k s f bs t o ≡ 0
no_refusal p k s f bs t o l e =
    let w = first_none (numbers_refusal p k s f) (first_of (long_refusal (stripe_long p k s) t) (long_refusal (p * s) o)) e in
    ap₂ first_of w.0 (ap₂ first_of (long_accepted (3 * p) bs l) w.1)
