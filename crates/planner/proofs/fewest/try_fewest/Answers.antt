-- `try_fewest`: refusals 1, 13 and 3; P and Q as ours; else the fewest plan with its reads counted.
use Rattle.std.proofs.Common.{sym}
use Rattle.planner.proofs.FewestLaws.{fewest_gives, fewest_ours}
use Rattle.planner.specs.PlanResults.{plan_in}
use Rattle.planner.proofs.fewest.try_fewest.Goals as goal

pub returns-then-disks-lost : goal.returns-then-disks-lost
returns-then-disks-lost c = let a = c.args in fewest_ours a.width a.disks a.lost (plan_in c.try_plan.result) c.if-disks-lost.true c.try_plan.ensures

pub returns : goal.returns
returns c =
    let a = c.args in
    let n = c.in_ok-array.ensures.numbers in
    fewest_gives a.width a.disks a.lost c.fewest_data_plan.result (sym c.in_ok-array.ensures.refusal) c.if-disks-lost.false (rw (sym n.0, sym n.1) c.fewest_data_plan.ensures)
