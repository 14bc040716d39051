-- The promise of `balanced_plan`, for accepted and refused calls alike. p is the width, k the
-- number of data disks, f the lost disk.
use Rattle.std.specs.Prelude.{ℕ}
use Rattle.liberation.specs.Sets.{plan_refusal}
use Rattle.liberation.specs.BalancedPlan.Balanced.{balanced_plan}
use Rattle.planner.specs.PlanSays.{GivesPlan}
use Rattle.planner.specs.declared.Plan.{Plan}
use Rattle.planner.specs.BalancedStepsSays.{balanced_word}

-- refusals 1, 13 and 3; else the balanced plan
abbrev pub BalancedSays : ℕ → ℕ → ℕ → Plan → Type 0
BalancedSays p k f r = GivesPlan p k f (plan_refusal p k f) (balanced_plan p k f) (balanced_word p k f) r
