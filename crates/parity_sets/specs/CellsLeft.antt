-- What an iterator over the cells of a set has left.
use Rattle.std.specs.Prelude.{List, ℕ, drop}
use Rattle.parity_sets.specs.ParitySets.{cells_of}
use Rattle.parity_sets.specs.declared.set.Cells.{Cells}

abbrev pub cells_left : Cells → List ℕ
cells_left s = drop s.at (cells_of s.array.width s.array.disks s.set)
