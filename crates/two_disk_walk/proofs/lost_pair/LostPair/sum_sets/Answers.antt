-- `sum_sets`: each turn sums the two sets of a row. The invariant: the rows still to come, summed
-- in the stripe as it is, give what all rows give in the stripe as it was.
use mathlib.Core.Path.{sym, ◌∙◌}
use Prim.Native.Nat.{◌+◌, ◌-◌}
use native.Mathlib.Omega.{arith}
use Rattle.two_disk_walk.proofs.SumLoops.{sums_turn, sums_last}
use Rattle.two_disk_walk.proofs.lost_pair.LostPair.sum_sets.Goals as goal

pub loop-preserved : goal.loop-preserved
loop-preserved c =
    let l = c.loop in
    let a = c.args in
    let g = a.self.geometry in
    let n = c.crossing-next in
    let f = c.sum_set in
    let d = c.sum_set-in-loop in
    (n.ensures.row.1, d.auto.stripe ∙ f.auto.stripe ∙ l.invariant.1, sums_turn g.array.width g.array.disks g.cell_size a.self.x a.self.y (a.count - l.counter) (a.count - (l.counter + 1)) l.row n.result.number n.result.row l.stripe f.new.stripe d.new.stripe (omega arith) n.ensures.number.0 n.ensures.row.0 f.ensures d.ensures ∙ l.invariant.2)

pub returns : goal.returns
returns c =
    let l = c.loop in
    let a = c.args in
    let g = a.self.geometry in
    sym (sums_last g.array.width g.array.disks g.cell_size a.self.x a.self.y (a.count - l.counter) l.row l.stripe (omega arith)) ∙ l.invariant.2
