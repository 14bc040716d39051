-- `start_sums`: the sets of the start are summed, then the cells that hold the sums are listed and
-- gathered into the first cell, which is one of them.
use mathlib.Core.Path.{◌∙◌}
use Rattle.stripe_cells.proofs.SolvedLaws.{from_none}
use Rattle.two_disk_walk.proofs.LostDisks.{lost_pair}
use Rattle.two_disk_walk.proofs.StartCells.{first_beside, first_done}
use Rattle.two_disk_walk.proofs.lost_pair.LostPair.start_sums.Goals as goal

pub gather_within-requires : goal.gather_within-requires
gather_within-requires c =
    let a = c.args in
    let g = a.self.geometry in
    let s = c.sum_sets in
    first_beside g.array.width g.array.disks g.cell_size a.self.x a.self.y s.new.stripe c.as_slice.result.now (lost_pair a.self s.new.stripe (s.auto.stripe ∙ c.requires.0)) c.extra_row-row.result c.extra_row-from.result c.extra_row-row.ensures.1 c.extra_row-from.ensures.1 c.offset-to.result c.offset-to.ensures (c.as_slice.ensures.0 ∙ from_none _ _ _ c.clear.ensures c.push_sums.ensures)

pub returns : goal.returns
returns c =
    let a = c.args in
    let g = a.self.geometry in
    let s = c.sum_sets in
    first_done g.array.width g.array.disks g.cell_size a.self.x a.self.y s.new.stripe c.as_slice.result.now (lost_pair a.self s.new.stripe (s.auto.stripe ∙ c.requires.0)) c.extra_row-row.result c.extra_row-from.result c.extra_row-row.ensures.1 c.extra_row-from.ensures.1 c.offset-to.result c.offset-to.ensures (c.as_slice.ensures.0 ∙ from_none _ _ _ c.clear.ensures c.push_sums.ensures) a.stripe.now c.gather_within.new.t c.extra_row-row.ensures.0 c.extra_row-from.ensures.0 s.ensures c.gather_within.ensures
