-- `balanced_steps`: P and Q as ours; a data disk by its routes.
use Rattle.liberation.proofs.BalancedPlan.BalancedPlan.{balanced_data, balanced_parity}
use Rattle.planner.proofs.PlannedLaws.{data_given, parity_given}
use Rattle.planner.proofs.balanced.balanced_steps.Goals as goal

pub returns-then-array-lost : goal.returns-then-array-lost
returns-then-array-lost c =
    let a = c.args in
    let l = c.if-array-lost.true in
    parity_given a.array.width a.array.disks a.lost _ _ c.plan_steps.result l (balanced_parity a.array.width a.array.disks a.lost l) c.plan_steps.ensures

pub returns : goal.returns
returns c =
    let a = c.args in
    let l = c.if-array-lost.false in
    data_given a.array a.lost _ _ c.balanced_routes.result c.by_routes.result l c.balanced_routes.ensures (balanced_data a.array.width a.array.disks a.lost l) c.by_routes.ensures
