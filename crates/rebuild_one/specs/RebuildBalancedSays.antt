-- The promise of `rebuild_balanced`, for accepted and refused calls alike: refusals as of
-- `rebuild_one`, else the column by the balanced plan.
use Rattle.std.specs.Prelude.{List, ℕ}
use Rattle.liberation.specs.BalancedPlan.Balanced.{balanced_plan}
use Rattle.liberation.specs.Stripes.Stripes.{rebuilt_by}
use Rattle.refusals.specs.declared.answer.Answer.{Answer}
use Rattle.rebuild_one.specs.RebuildOneSays.{one_refusal, Writes}

abbrev pub BalancedOneSays : ℕ → ℕ → ℕ → ℕ → List ℕ → List ℕ → List ℕ → Answer → Type 0
BalancedOneSays p k s f t o o' r = Writes (one_refusal p k s f t o) (rebuilt_by p k s f (balanced_plan p k f) t) t o o' r
