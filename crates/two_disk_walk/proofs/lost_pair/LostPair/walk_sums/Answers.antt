-- `walk_sums`: the start, the other cell of the first cell's row, the walk and the last steps, each
-- on the stripe that the one before left.
use mathlib.Core.Path.{◌∙◌}
use native.Mathlib.Omega.{arith}
use Rattle.stripe_cells.proofs.OrdinaryLaws.{row_own}
use Rattle.two_disk_walk.proofs.WalkLaws.{sums_done}
use Rattle.two_disk_walk.proofs.lost_pair.LostPair.walk_sums.Goals as goal

pub solve-requires : goal.solve-requires
solve-requires c =
    let s = c.args.self in
    let r = c.extra_row-row in
    record { stripe_len = c.start_sums.auto.stripe ∙ c.requires.0; ordinary = row_own s.geometry.array.width s.geometry.array.disks r.result s.x r.ensures.1 (omega (arith, s.x_is_data)) }

pub returns : goal.returns
returns c =
    let a = c.args in
    let g = a.self.geometry in
    let r = c.extra_row-row in
    let f = c.extra_row-from in
    sums_done g.array.width g.array.disks g.cell_size a.self.x a.self.y r.result f.result a.stripe.now c.start_sums.new.stripe c.solve.new.stripe c.diagonal_step.new.stripe c.add_last.new.stripe r.ensures.0 f.ensures.0 c.start_sums.ensures c.solve.ensures c.diagonal_step.ensures c.add_last.ensures
