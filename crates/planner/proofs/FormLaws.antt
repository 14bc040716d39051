-- The record of an accepted plan holds the defined plan, and so does the record put into the
-- judge's form, three bytes a step.
use mathlib.Core.Path.{◌≡◌, ◌∙◌}
use mathlib.Core.List.{List}
use Prim.Native.Nat.{ℕ, ◌*◌}
use lib.ListN.{length}
use Rattle.liberation.specs.Sets.{plan_refusal}
use Rattle.liberation.specs.Plans.{Step, plan_of}
use Rattle.liberation.specs.Records.{recorded, judge_form}
use Rattle.liberation.specs.Judging.{steps_in}
use Rattle.liberation.proofs.RefusalLaws.{plan_of_lem}
use Rattle.liberation.proofs.RecordLaws.{length_form, form_steps}
use Rattle.refusals.proofs.AnswerLaws.{answers_none}
use Rattle.planner.specs.PlanStepsSays.{planned_steps}
use Rattle.planner.proofs.PlannedLaws.{held_as, ours_held, planned_is}
use Rattle.planner.specs.declared.Plan.{Plan}
use Rattle.planner.specs.PlanSays.{PlanSays}

-- the p steps of a plan's record, and the same in the judge's form
abbrev pub steps_held : ℕ → Plan → List Step
steps_held p r = recorded p 0 r.steps.rows r.steps.kinds r.steps.numbers

abbrev pub form_of : ℕ → Plan → List ℕ
form_of p r = judge_form p 0 r.steps.rows r.steps.kinds r.steps.numbers

pub length_of : (p : ℕ) (r : Plan) → length (form_of p r) ≡ 3 * p
length_of p r = length_form p 0 r.steps.rows r.steps.kinds r.steps.numbers

-- an accepted answer's record holds our plan
pub plan_held : (p k f : ℕ) (r : Plan) → PlanSays p k f r → r.answer.refusal ≡ 0 → steps_held p r ≡ plan_of p k f
plan_held p k f r q z =
    let n : plan_refusal p k f ≡ 0 = answers_none (plan_refusal p k f) r.answer q.answer z in
    let w = plan_of_lem p k f n in
    ours_held p k f r.steps w.0 w.1 (held_as (planned_steps p k f) (plan_of p k f) r.steps (planned_is p k f n) q.steps)

-- "ours for the p steps of the planner's record, put in that form"
pub plan_form : (p k f : ℕ) (r : Plan) → PlanSays p k f r → r.answer.refusal ≡ 0 → steps_in p (form_of p r) ≡ plan_of p k f
plan_form p k f r q z = form_steps p 0 r.steps.rows r.steps.kinds r.steps.numbers ∙ plan_held p k f r q z
