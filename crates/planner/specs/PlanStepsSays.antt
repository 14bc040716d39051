-- Plans in a record without their read count: any plan, that of a data disk's routes, ours; and the
-- steps and routes of a call that may be refused. p is the width, k the number of data disks, f the
-- lost disk.
use Rattle.std.specs.Prelude.{◌≡◌, List, [], ◌++◌, ℕ, eqb, ltb}
use Rattle.mathematics.specs.Choice.{pick}
use Rattle.liberation.specs.Sets.{plan_refusal}
use Rattle.liberation.specs.Plans.{Step, row_steps, diagonal_steps, plan_of, word_from, route_word}
use Rattle.planner.specs.StepRecords.{Holds}
use Rattle.planner.specs.declared.steps.Planned.{Planned}

-- the plan ss, whose route word is w
pub record GivesSteps (ss : List Step) (w : ℕ) (r : Planned) : Type 0 where
  pub steps : Holds ss r.steps
  pub routes : r.routes ≡ w

-- a data disk's plan with the routes rs
abbrev pub ByRoutes : ℕ → ℕ → List ℕ → Planned → Type 0
ByRoutes p f rs r = GivesSteps (row_steps 0 rs ++ diagonal_steps p f 0 rs) (word_from 0 rs) r

-- the word of a plan with the routes rs for a data disk: for P and Q that of our plan
abbrev pub word_by : ℕ → ℕ → ℕ → List ℕ → ℕ
word_by p k f rs = pick (ltb f k) (word_from 0 rs) (route_word p k f)

-- our plan for disk f of an array with k data disks
abbrev pub OurPlan : ℕ → ℕ → ℕ → Planned → Type 0
OurPlan p k f r = GivesSteps (plan_of p k f) (route_word p k f) r

-- the planner refuses by 1, 13 and 3: our plan, or no step on a refusal
abbrev pub planned_steps : ℕ → ℕ → ℕ → List Step
planned_steps p k f = pick (eqb (plan_refusal p k f) 0) (plan_of p k f) []

abbrev pub planned_routes : ℕ → ℕ → ℕ → ℕ
planned_routes p k f = pick (eqb (plan_refusal p k f) 0) (route_word p k f) 0
