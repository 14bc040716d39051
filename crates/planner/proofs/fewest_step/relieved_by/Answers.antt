-- `relieved_by`: each turn adds what the next disk of the walk is relieved of.
use Rattle.std.proofs.Common.{arith}
use Rattle.planner.proofs.RelievedSteps.{summed_none, summed_next, summed_room, summed_all_lem}
use Rattle.planner.proofs.fewest_step.relieved_by.Goals as goal

pub loop-steps-init : goal.loop-steps-init
loop-steps-init c = let a = c.args in summed_none a.array.width a.array.disks a.lost a.step c.requires.0

pub overflow_add-sum : goal.overflow_add-sum
overflow_add-sum c =
    let l = c.loop-steps in
    let a = c.args in
    omega (arith, summed_room a.array.width a.array.disks a.lost a.step l.steps l.disk l.sum c.spared-sum.result a.array.widest c.loop-steps-test.true l.invariant c.spared-sum.ensures)

pub loop-steps-preserved : goal.loop-steps-preserved
loop-steps-preserved c =
    let l = c.loop-steps in
    let a = c.args in
    summed_next a.array.width a.array.disks a.lost a.step l.steps l.disk l.sum c.spared-sum.result c.row_on-disk.result c.loop-steps-test.true l.invariant c.spared-sum.ensures (c.row_on-disk.ensures (omega (arith, c.requires.1)))

pub returns : goal.returns
returns c =
    let l = c.loop-steps in
    let a = c.args in
    summed_all_lem a.array.width a.array.disks a.lost a.step l.steps l.disk l.sum c.loop-steps-test.false l.invariant
