-- `piece_at`: the part of the cells from the piece's place on.
use Prim.Native.Nat.{◌*◌}
use Rattle.unit_sums.proofs.PieceLaws.{part_is, piece_ends}
use Rattle.unit_sums.proofs.unit.piece_at.Goals as goal

pub slice_bounds-result-end : goal.slice_bounds-result-end
slice_bounds-result-end c = let a = c.args in piece_ends a.geometry.array.width a.geometry.array.disks a.geometry.cell_size a.x a.cells.now c.requires.long c.requires.place

pub returns : goal.returns
returns c = let s = c.args.geometry.cell_size in part_is (c.args.x * s) s c.args.cells.now
