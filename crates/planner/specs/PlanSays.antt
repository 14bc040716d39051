-- Plan records: a plan with its reads counted, and the promise of a planner, for
-- accepted and refused calls alike. p is the width, k the number of data disks, f the lost disk.
use Rattle.std.specs.Prelude.{◌≡◌, List, [], ℕ, eqb}
use Rattle.mathematics.specs.Choice.{pick}
use Rattle.liberation.specs.Sets.{plan_refusal}
use Rattle.liberation.specs.Plans.{Step, plan_of, route_word, read_count}
use Rattle.refusals.specs.Answers.{Answers}
use Rattle.planner.specs.StepRecords.{Holds, held}
use Rattle.planner.specs.declared.steps.Planned.{Planned}
use Rattle.planner.specs.declared.Plan.{Plan}

-- plan q with its reads counted
pub record Finished (p k f : ℕ) (q : Planned) (r : Plan) : Type 0 where
  pub answer : Answers 0 r.answer
  pub steps : r.steps ≡ q.steps
  pub routes : r.routes ≡ q.routes
  pub reads : r.reads ≡ read_count p k f (held p q.steps)

-- a planner that refuses by n, 0 for none: else the plan ss, whose route word is w, with its read
-- count
pub record GivesPlan (p k f n : ℕ) (ss : List Step) (w : ℕ) (r : Plan) : Type 0 where
  pub answer : Answers n r.answer
  pub steps : Holds (pick (eqb n 0) ss []) r.steps
  pub routes : r.routes ≡ pick (eqb n 0) w 0
  pub reads : r.reads ≡ pick (eqb n 0) (read_count p k f ss) 0

-- our planner refuses by 1, 13 and 3
abbrev pub PlanSays : ℕ → ℕ → ℕ → Plan → Type 0
PlanSays p k f r = GivesPlan p k f (plan_refusal p k f) (plan_of p k f) (route_word p k f) r
