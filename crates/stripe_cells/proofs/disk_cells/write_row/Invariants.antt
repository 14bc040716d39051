-- `write_row`: each turn writes the offset of the row's cell on the next disk.
use mathlib.Core.Path.{◌≡◌}
use Prim.Native.Nat.{◌+◌, ◌*◌}
use Rattle.stripe_cells.proofs.WritingLaws.{Writing}
use Rattle.stripe_cells.proofs.disk_cells.write_row.Given as goal

-- `offset` is that of the row's cell on the next disk
abbrev pub invariant-loop-slot : goal.invariant-loop-slot
invariant-loop-slot l =
    let g = l.fn.geometry in
    (l.offset ≡ (l.disk + l.slot-index) * (g.array.width * g.cell_size) + l.number * g.cell_size) × Writing 0 g.array.width l.number g.cell_size l.disk l.initial.slots l.slots l.slot-index
