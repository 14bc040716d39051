-- `walk_to_zero`: the other cell of the first cell's row, then the walk on the stripe that it left,
-- in two halves: the second begins at the row that the first one comes to.
use native.Mathlib.Omega.{arith}
use Rattle.stripe_cells.proofs.OrdinaryLaws.{row_own}
use Rattle.two_disk_walk.proofs.LostDisks.{walked_pair}
use Rattle.two_disk_walk.proofs.WalkLaws.{walk_done}
use Rattle.two_disk_walk.proofs.lost_pair.LostPair.walk_to_zero.Goals as goal

pub solve-requires : goal.solve-requires
solve-requires c =
    let g = c.args.self.geometry in
    let r = c.extra_row-row in
    record { stripe_len = c.requires.0; ordinary = row_own g.array.width g.array.disks r.result 0 r.ensures.1 (omega arith) }

pub returns : goal.returns
returns c =
    let a = c.args in
    let g = a.self.geometry in
    let r = c.extra_row-row in
    let w = walked_pair a.self in
    walk_done g.array.width g.array.disks g.cell_size a.self.x r.result a.stripe.now c.solve.new.stripe c.diagonal_step.new.stripe c.diagonal_step-2.new.stripe w.odd w.low (omega (arith, w.high, g.array.within)) r.ensures.1 r.ensures.0 c.solve.ensures (rw c.requires.1 at c.diagonal_step.ensures) (rw c.requires.1 at c.diagonal_step-2.ensures)
