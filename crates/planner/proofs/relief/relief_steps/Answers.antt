-- `relief_steps`: P and Q as ours; a data disk by its routes.
use Rattle.liberation.specs.ReliefPlan.Relief.{relief_step}
use Rattle.liberation.proofs.ReliefPlan.ProgressionPlan.{progression_data, progression_parity}
use Rattle.planner.proofs.PlannedLaws.{data_given, parity_given}
use Rattle.planner.proofs.relief.relief_steps.Goals as goal

pub returns-then-array-lost : goal.returns-then-array-lost
returns-then-array-lost c =
    let a = c.args in
    let l = c.if-array-lost.true in
    let g = relief_step a.array.width a.lost a.relieved in
    parity_given a.array.width a.array.disks a.lost _ _ c.plan_steps.result l (progression_parity a.array.width a.array.disks a.lost g l) c.plan_steps.ensures

pub returns : goal.returns
returns c =
    let a = c.args in
    let l = c.if-array-lost.false in
    let g = relief_step a.array.width a.lost a.relieved in
    data_given a.array a.lost _ _ c.relief_routes-routes.result c.by_routes.result l c.relief_routes-routes.ensures (progression_data a.array.width a.array.disks a.lost g l) c.by_routes.ensures
