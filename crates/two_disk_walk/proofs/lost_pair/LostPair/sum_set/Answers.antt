-- `sum_set`: the surviving cells of the set are listed, and their XOR is put at the lost cell, apart
-- from which they lie.
use mathlib.Core.Path.{ap, ◌∙◌}
use native.Mathlib.Omega.{arith}
use Rattle.parity_sets.specs.ParitySets.{kind_of, number_of, cells_of}
use Rattle.stripe_cells.specs.Offsets.{scaled}
use Rattle.stripe_cells.proofs.SolvedLaws.{from_none}
use Rattle.two_disk_walk.proofs.LostDisks.{lost_pair}
use Rattle.two_disk_walk.proofs.SumLists.{sum_apart, sum_done}
use Rattle.two_disk_walk.proofs.lost_pair.LostPair.sum_set.Goals as goal

pub gather-requires : goal.gather-requires
gather-requires c =
    let a = c.args in
    let g = a.self.geometry in
    let q = c.requires in (
      omega arith,
      sum_apart g.array.width g.array.disks g.cell_size a.self.x a.self.y a.stripe.now c.push_surviving.new.self (lost_pair a.self a.stripe.now q.0) (kind_of a.set) (number_of a.set) a.cell.row a.cell.disk q.1 q.2 q.3 c.offset.result c.offset.ensures
          (from_none _ _ _ c.clear.ensures c.push_surviving.ensures ∙ ap (scaled g.cell_size) (c.two.ensures g.array.width (cells_of g.array.width g.array.disks a.set))),
    )

pub returns : goal.returns
returns c =
    let a = c.args in
    let g = a.self.geometry in
    let q = c.requires in
    sum_done g.array.width g.array.disks g.cell_size a.self.x a.self.y a.stripe.now c.push_surviving.new.self (lost_pair a.self a.stripe.now q.0) (kind_of a.set) (number_of a.set) a.cell.row a.cell.disk q.1 q.2 q.3 c.offset.result c.offset.ensures
    (from_none _ _ _ c.clear.ensures c.push_surviving.ensures ∙ ap (scaled g.cell_size) (c.two.ensures g.array.width (cells_of g.array.width g.array.disks a.set)))
    c.gather.new.stripe c.gather.ensures
