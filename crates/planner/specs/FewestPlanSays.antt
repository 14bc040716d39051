-- The promise of `fewest_plan`, for accepted and refused calls alike. p is the width, k the number
-- of data disks, f the lost disk.
use Rattle.std.specs.Prelude.{◌≡◌, List, ◌++◌, ℕ}
use Rattle.liberation.specs.Sets.{plan_refusal}
use Rattle.liberation.specs.Plans.{word_from, row_steps, diagonal_steps}
use Rattle.liberation.specs.FewestPlan.Fewest.{reads_by, fewest_routes, fewest_plan}
use Rattle.refusals.specs.Answers.{Answers}
use Rattle.planner.specs.StepRecords.{Holds}
use Rattle.planner.specs.declared.Plan.{Plan}
use Rattle.planner.specs.PlanSays.{GivesPlan}
use Rattle.planner.specs.PlanStepsSays.{word_by}

-- a data disk's plan with the routes rs, not refused
pub record Routed (p k f : ℕ) (rs : List ℕ) (r : Plan) : Type 0 where
  pub answer : Answers 0 r.answer
  pub steps : Holds (row_steps 0 rs ++ diagonal_steps p f 0 rs) r.steps
  pub routes : r.routes ≡ word_from 0 rs
  pub reads : r.reads ≡ reads_by p k f rs

-- the routes of the plan as a word
abbrev pub fewest_word : ℕ → ℕ → ℕ → ℕ
fewest_word p k f = word_by p k f (fewest_routes p k f)

-- refusals 1, 13 and 3; else the fewest plan
abbrev pub FewestSays : ℕ → ℕ → ℕ → Plan → Type 0
FewestSays p k f r = GivesPlan p k f (plan_refusal p k f) (fewest_plan p k f) (fewest_word p k f) r
