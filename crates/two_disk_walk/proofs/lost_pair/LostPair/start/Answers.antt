-- `start`: the first cell is a cell of the stripe on a lost disk, so it is none of the surviving
-- cells. Their marks are toggled from no mark at all, and the odd ones are gathered.
use native.Mathlib.Omega.{arith}
use Rattle.refusals.proofs.WithinLimits.{sized}
use Rattle.two_disk_walk.proofs.LostDisks.{walked_zero}
use Rattle.two_disk_walk.proofs.StartLaws.{start_made, start_marked, start_done}
use Rattle.two_disk_walk.proofs.lost_pair.LostPair.start.Goals as goal

pub gather_odd-requires : goal.gather_odd-requires
gather_odd-requires c =
    let a = c.args in
    let g = a.self.geometry in
    let r = c.extra_row-row in
    let t = c.toggle_sets in
    let made = start_made g.array.width g.array.disks a.self.x r.result c.cells.result c.no_marks-all.result t.new.marks c.cells.ensures.0 c.cells.ensures.1 c.no_marks-all.ensures t.ensures in
    start_marked g.array.width g.array.disks a.self.x (walked_zero a.self) g.array.within g.cell_size r.result c.place-to.result t.new.marks a.stripe.now (sized g a.stripe.now c.requires.0) r.ensures.0 c.place-to.ensures.0 made (omega (arith, c.cells.ensures.0, c.cells.ensures.1))

pub returns : goal.returns
returns c =
    let a = c.args in
    let g = a.self.geometry in
    let r = c.extra_row-row in
    let t = c.toggle_sets in
    let made = start_made g.array.width g.array.disks a.self.x r.result c.cells.result c.no_marks-all.result t.new.marks c.cells.ensures.0 c.cells.ensures.1 c.no_marks-all.ensures t.ensures in
    start_done g.array.width g.array.disks a.self.x (walked_zero a.self) g.array.within g.cell_size r.result c.place-to.result t.new.marks a.stripe.now (sized g a.stripe.now c.requires.0) r.ensures.0 c.place-to.ensures.0 made c.gather_odd.new.stripe c.gather_odd.ensures
