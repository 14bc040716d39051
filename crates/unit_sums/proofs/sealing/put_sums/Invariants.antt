-- `put_sums`: after x turns the first x places of the block hold the checksums of the first x
-- pieces.
use mathlib.Core.Path.{◌≡◌}
use Prim.Native.Nat.{ℕ, ◌<◌}
use Rattle.liberation.specs.Stripes.Stripes.{cell_at}
use Rattle.unit_sums.specs.Sums.{little_endian, sum_of}
use Rattle.unit_sums.proofs.sealing.put_sums.Given as goal

abbrev pub invariant-loop-x : goal.invariant-loop-x
invariant-loop-x l = (y : ℕ) → y < l.x → cell_at 8 l.block y ≡ little_endian 8 (sum_of l.geometry.array.width l.label.name.now l.label.unit y (cell_at l.geometry.cell_size l.cells y))
