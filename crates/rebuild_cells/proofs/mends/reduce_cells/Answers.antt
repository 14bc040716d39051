-- `reduce_cells`: the rows of all sets, then their reduction.
use Prim.Native.Nat.{◌+◌, ◌*◌}
use Rattle.mathematics.proofs.ListLaws.{below_at}
use Rattle.rebuild_cells.proofs.NamedLaws.{cells_reduced}
use Rattle.rebuild_cells.proofs.mends.reduce_cells.Goals as goal

pub fill_rows-requires-clause-in_array : goal.fill_rows-requires-clause-in_array
fill_rows-requires-clause-in_array c =
    let a = c.args.array in
    (c.requires.0.few, λ i h. below_at (a.width * (a.disks + 2)) i c.args.cells.now c.requires.0.below h)

pub returns : goal.returns
returns c =
    let a = c.args.array in
    cells_reduced a.width a.disks c.args.cells.now c.fill_rows.new.rows c.reduce.new.rows c.reduce.result c.fill_rows.ensures.0 c.fill_rows.ensures.1 c.reduce.ensures.0 c.reduce.ensures.1
