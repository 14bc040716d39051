-- Offsets of cells, the bytes of a stripe before them, put into slots after those that are there.
use Rattle.std.specs.Prelude.{◌≡◌, List, [], ◌∷◌, ◌++◌, ℕ, ◌*◌, ◌≤◌, eqb, length, take}
use Rattle.mathematics.specs.Choice.{pick}
use Rattle.liberation.specs.Sets.{row_from, diagonal_from}

-- the offsets of cells of s bytes, by their places
unfoldable pub scaled : ℕ → List ℕ → List ℕ
scaled s [] = []
scaled s (x ∷ xs) = x * s ∷ scaled s xs

-- the cells of row or diagonal i on n disks from c on; kind 0 for a row
abbrev pub cells_from : ℕ → ℕ → ℕ → ℕ → ℕ → List ℕ
cells_from kind n p i c = pick (eqb kind 0) (row_from n p i c) (diagonal_from n p i c)

-- of the slots `old` the first n were written, and of `new` the first r are: xs comes after what was
-- there
pub record Pushed (old new : List ℕ) (n r : ℕ) (xs : List ℕ) : Type 0 where
  pub list : take r new ≡ take n old ++ xs
  pub fits : r ≤ length new
