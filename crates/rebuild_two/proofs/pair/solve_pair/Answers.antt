-- `solve_pair`: the lower disk first.
use Rattle.rebuild_two.proofs.DiskLaws.{pair_in_order}
use Rattle.rebuild_two.proofs.pair.solve_pair.Goals as goal

pub returns : goal.returns
returns c =
    let a = c.args in
    let g = a.geometry in
    pair_in_order g.array.width g.array.disks g.cell_size a.first a.second a.stripe.now c.solve_ordered.new.stripe c.min.result c.max.result c.min.ensures c.max.ensures c.solve_ordered.ensures
