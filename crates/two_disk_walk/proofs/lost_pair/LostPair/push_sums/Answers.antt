-- `push_sums`: each turn appends the two cells of a row. The invariant: what the list holds, with
-- the cells of the rows still to come, are what it held, with the cells of all rows.
use mathlib.Core.Path.{sym, ap, ◌∙◌}
use Prim.Native.Nat.{ℕ, ◌+◌, ◌-◌}
use native.Mathlib.Omega.{arith}
use lib.ListN.{length, length-append}
use Rattle.two_disk_walk.proofs.StartCells.{cells_turn, cells_last}
use Rattle.two_disk_walk.proofs.lost_pair.LostPair.push_sums.Goals as goal

pub loop-preserved : goal.loop-preserved
loop-preserved c =
    let l = c.loop in
    let a = c.args in
    let g = a.self.geometry in
    let n = c.crossing-row in
    (n.ensures.row.1, omega (arith, length-append {A = ℕ}, l.invariant.1, ap length c.push.ensures, ap length c.push-in-loop.ensures), cells_turn g.array.width g.cell_size a.self.x a.self.y (a.count - l.counter) (a.count - (l.counter + 1)) l.row n.result.row c.offset.result c.offset-in-loop.result l.list c.push.new.self c.push-in-loop.new.self (omega arith) n.ensures.row.0 c.offset.ensures c.offset-in-loop.ensures c.push.ensures c.push-in-loop.ensures ∙ l.invariant.2)

pub returns : goal.returns
returns c =
    let l = c.loop in
    let a = c.args in
    let g = a.self.geometry in
    sym (cells_last g.array.width g.cell_size a.self.x a.self.y (a.count - l.counter) l.row l.list (omega arith)) ∙ l.invariant.2
