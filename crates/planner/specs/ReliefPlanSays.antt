-- The promise of `relief_plan`, for accepted and refused calls alike. p is the width, k the number
-- of data disks, f the lost disk, c the relieved one.
use Rattle.std.specs.Prelude.{ℕ, eqb, ltb, leb}
use Rattle.mathematics.specs.Choice.{pick, when, first_of}
use Rattle.liberation.specs.Sets.{plan_refusal}
use Rattle.liberation.specs.Plans.{word_from, route_word}
use Rattle.liberation.specs.ReliefPlan.Relief.{relief_routes, relief_plan}
use Rattle.planner.specs.declared.steps.Planned.{Planned}
use Rattle.planner.specs.declared.Plan.{Plan}
use Rattle.planner.specs.PlanSays.{GivesPlan}
use Rattle.planner.specs.PlanStepsSays.{GivesSteps}

-- refusals 1, 13 and 3 for the lost disk, then 3 for a relieved number that is no data disk of the
-- array, then 4 for one that is lost
abbrev pub relief_refusal : ℕ → ℕ → ℕ → ℕ → ℕ
relief_refusal p k f c = first_of (plan_refusal p k f) (first_of (when (leb k c) 3) (when (eqb c f) 4))

-- the routes of the plan as a word: for P and Q those of our plan
abbrev pub relief_word : ℕ → ℕ → ℕ → ℕ → ℕ
relief_word p k f c = pick (ltb f k) (word_from 0 (relief_routes p f c)) (route_word p k f)

-- the plan in a record
abbrev pub ReliefGiven : ℕ → ℕ → ℕ → ℕ → Planned → Type 0
ReliefGiven p k f c r = GivesSteps (relief_plan p k f c) (relief_word p k f c) r

abbrev pub ReliefSays : ℕ → ℕ → ℕ → ℕ → Plan → Type 0
ReliefSays p k f c r = GivesPlan p k f (relief_refusal p k f c) (relief_plan p k f c) (relief_word p k f c) r
