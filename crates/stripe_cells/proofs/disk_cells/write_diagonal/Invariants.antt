-- `write_diagonal`: each turn writes the offset of the diagonal's cell on the next disk. The row goes
-- round the width at most once a turn, so no remainder is taken.
use mathlib.Core.Path.{◌≡◌}
use Prim.Native.Nat.{◌+◌, ◌*◌, ◌%◌}
use Rattle.stripe_cells.proofs.WritingLaws.{Writing}
use Rattle.stripe_cells.proofs.disk_cells.write_diagonal.Given as goal

-- the diagonal's cell on the next disk is in this row, and its column begins at `top`
abbrev pub invariant-loop-slot : goal.invariant-loop-slot
invariant-loop-slot l =
    let g = l.geometry in
    (l.row ≡ (l.number + (l.disk + l.slot-index)) % g.array.width) × (l.top ≡ (l.disk + l.slot-index) * (g.array.width * g.cell_size)) × Writing 1 g.array.width l.number g.cell_size l.disk l.initial.slots l.slots l.slot-index
