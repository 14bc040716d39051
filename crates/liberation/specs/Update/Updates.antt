-- Updating one data cell (document 02, asks 4 and 9): p rows, k data disks, cells of s bytes. What
-- is added to the cell is added to the P cell of its row and to the Q cell of each diagonal that
-- holds it.
use Rattle.std.specs.Prelude.{Bool, ◌&&◌, List, [], ◌∷◌, ℕ, suc, eqb, leb}
use Rattle.mathematics.specs.Choice.{pick}
use Rattle.mathematics.specs.Xor.{xor_l}
use Rattle.liberation.specs.Sets.{place, extra_row, extra_disk}
use Rattle.liberation.specs.Plans.{diagonal_of}
use Rattle.liberation.specs.Stripes.Stripes.{cell_at, with_cell}

-- cell (r, c) is the extra cell of a diagonal: only D (p - 1 - r) has its extra cell in row r
abbrev pub is_extra : ℕ → ℕ → ℕ → Bool
is_extra p r c = leb 1 (extra_row p r) && eqb (extra_disk p (extra_row p r)) c

-- the diagonals that hold data cell (r, c): the one on which it is ordinary, and the one whose
-- extra cell it is
unfoldable pub holders : ℕ → ℕ → ℕ → List ℕ
holders p r c = diagonal_of p c r ∷ pick (is_extra p r c) (extra_row p r ∷ []) []

-- the cells of disk c in the rows of a list
unfoldable pub cells_on : ℕ → ℕ → List ℕ → List ℕ
cells_on p c [] = []
cells_on p c (i ∷ is) = place p i c ∷ cells_on p c is

-- the parity cells of data cell (r, c): "its P cell and the Q cells of the diagonals holding it"
unfoldable pub parity_of : ℕ → ℕ → ℕ → ℕ → List ℕ
parity_of p k r c = place p r k ∷ cells_on p (suc k) (holders p r c)

-- d added, by XOR, to each cell of a list
unfoldable pub added_each : ℕ → List ℕ → List ℕ → List ℕ → List ℕ
added_each s d [] t = t
added_each s d (y ∷ ys) t = added_each s d ys (with_cell s y (xor_l (cell_at s t y) d) t)

-- what an update that puts new bytes at place x adds to the cell and to its parity cells
abbrev pub change : ℕ → ℕ → List ℕ → List ℕ → List ℕ
change s x new t = xor_l (cell_at s t x) new

-- the stripe after an update: new bytes in data cell (r, c), the change in its parity cells
unfoldable pub updated : ℕ → ℕ → ℕ → ℕ → ℕ → List ℕ → List ℕ → List ℕ
updated p k s r c new t = with_cell s (place p r c) new (added_each s (change s (place p r c) new t) (parity_of p k r c) t)

-- The same without scratch: the cell takes the change first, its bytes are added to the parity
-- cells, then it takes the new bytes.
unfoldable pub added_from : ℕ → ℕ → List ℕ → List ℕ → List ℕ
added_from s x [] t = t
added_from s x (y ∷ ys) t = added_from s x ys (with_cell s y (xor_l (cell_at s t y) (cell_at s t x)) t)

unfoldable pub updated_in_place : ℕ → ℕ → ℕ → ℕ → ℕ → List ℕ → List ℕ → List ℕ
updated_in_place p k s r c new t = with_cell s (place p r c) new (added_from s (place p r c) (parity_of p k r c) (with_cell s (place p r c) (change s (place p r c) new t) t))
