-- `fewest_step`: each turn tries one step more.
use Rattle.std.proofs.Common.{◌-◌, ◌/◌, ◌≤◌, arith}
use Rattle.planner.proofs.RelievedSteps.{tried_first, tried_more, tried_same, tried_all}
use Rattle.liberation.proofs.Widths.{width_least, width_odd}
use Rattle.planner.proofs.fewest_step.fewest_step.Goals as goal
use Rattle.planner.proofs.fewest_step.fewest_step.Goals.{then-most-sum, else-most-sum}

pub loop-step-init : goal.loop-step-init
loop-step-init c = let a = c.args in tried_first a.array.width a.array.disks a.lost c.relieved_by-most.result (width_least a.array.width a.array.one_of_ten) c.relieved_by-most.ensures

pub loop-step-preserved : goal.loop-step-preserved
loop-step-preserved c =
    let l = c.loop-step in
    let a = c.args in
    let t : l.step ≤ (a.array.width - 1) / 2 = omega (arith, c.loop-step-test.true, width_odd a.array.width a.array.one_of_ten) in
    let v = c.relieved_by-sum in
    elim c.if-most-sum.branch [
      | then-most-sum w ↦ tried_more a.array.width a.array.disks a.lost l.step l.best l.most v.result c.if-most-sum.best c.if-most-sum.most t v.ensures w.if-most-sum.true w.best-is w.most-is l.invariant
      | else-most-sum w ↦ tried_same a.array.width a.array.disks a.lost l.step l.best l.most v.result c.if-most-sum.best c.if-most-sum.most t v.ensures w.if-most-sum.false w.best-is w.most-is l.invariant
    ]

pub returns : goal.returns
returns c =
    let l = c.loop-step in
    let a = c.args in
    tried_all a.array.width a.array.disks a.lost l.step l.best l.most (omega (arith, c.loop-step-test.false, width_odd a.array.width a.array.one_of_ten)) l.invariant
