-- The balanced plan for disk f of an array with k data disks, in a record. p is the width.
use Rattle.std.specs.Prelude.{ℕ, ltb}
use Rattle.mathematics.specs.Choice.{pick}
use Rattle.liberation.specs.Plans.{word_from, route_word}
use Rattle.liberation.specs.BalancedPlan.Balanced.{balanced_routes, balanced_plan}
use Rattle.planner.specs.declared.steps.Planned.{Planned}
use Rattle.planner.specs.PlanStepsSays.{GivesSteps}

-- its routes as a word: for P and Q those of our plan
abbrev pub balanced_word : ℕ → ℕ → ℕ → ℕ
balanced_word p k f = pick (ltb f k) (word_from 0 (balanced_routes p f)) (route_word p k f)

abbrev pub BalancedPlanned : ℕ → ℕ → ℕ → Planned → Type 0
BalancedPlanned p k f r = GivesSteps (balanced_plan p k f) (balanced_word p k f) r
