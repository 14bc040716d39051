-- Rebuilding two lost disks in place (document 01, "Two lost disks"): p rows, k data disks, cells
-- of s bytes.
-- Two data disks x and y are walked: from row r, D (r - x) leads to the row of its cell on disk y,
-- and the row set of that row to its cell on disk x.
use Rattle.std.specs.Prelude.{Bool, false, ◌&&◌, ◌||◌, List, [], ◌∷◌, ◌++◌, ℕ, zero, suc, ◌+◌, ◌-◌, ◌*◌, ◌/◌, ◌%◌, eqb, ltb, leb}
use Rattle.mathematics.specs.Choice.{pick}
use Rattle.liberation.specs.Sets.{place, row_set, diagonal_set, surviving_in}
use Rattle.liberation.specs.Plans.{Step, step, extra_row_on, diagonal_of, all_of}
use Rattle.liberation.specs.Stripes.Stripes.{cell_at, with_cell, xor_over, solved, followed}

-- D (r - x) holds (r, x), and its cell on disk y is in this row
abbrev pub next_row : ℕ → ℕ → ℕ → ℕ → ℕ
next_row p x y r = (diagonal_of p x r + y) % p

-- The first cell is found from several sets together: R r and D (r - x) for n rows from r on.
unfoldable pub start_sets : ℕ → ℕ → ℕ → ℕ → ℕ → ℕ → List ℕ
start_sets zero p k x y r = []
start_sets (suc n) p k x y r = row_set p k r ++ (diagonal_set p k (diagonal_of p x r) ++ start_sets n p k x y (next_row p x y r))

-- Where y is disk 0, all 2p sets give the cell of disk x in row e, the row of the extra cell on x.
-- Otherwise (p - 1)/2 rows from that of the extra cell on y give the cell of disk y in row e.
abbrev pub start_count : ℕ → ℕ → ℕ
start_count p y = pick (eqb y 0) p ((p - 1) / 2)

abbrev pub first_disk : ℕ → ℕ → ℕ
first_disk x y = pick (eqb y 0) x y

abbrev pub other_disk : ℕ → ℕ → ℕ
other_disk x y = pick (eqb y 0) y x

-- the surviving cells of those sets, as often as they occur
unfoldable pub start_cells : ℕ → ℕ → ℕ → ℕ → List ℕ
start_cells p k x y = surviving_in p x (surviving_in p y (start_sets (start_count p y) p k x y (extra_row_on p (first_disk x y))))

abbrev pub first_cell : ℕ → ℕ → ℕ → ℕ
first_cell p x y = place p (extra_row_on p x) (first_disk x y)

abbrev pub started : ℕ → ℕ → ℕ → ℕ → ℕ → List ℕ → List ℕ
started p k s x y t = with_cell s (first_cell p x y) (xor_over s (cell_at s t) (start_cells p k x y)) t

-- "a diagonal step leads to a row step and that one to the next diagonal step": n cells are missing
unfoldable mutual
  pub diagonal_walk : ℕ → ℕ → ℕ → ℕ → ℕ → ℕ → ℕ → List ℕ → List ℕ
  diagonal_walk zero p k s x y r t = t
  diagonal_walk (suc n) p k s x y r t = row_walk n p k s x y (next_row p x y r) (solved s (place p (next_row p x y r) y) (diagonal_set p k (diagonal_of p x r)) t)

  pub row_walk : ℕ → ℕ → ℕ → ℕ → ℕ → ℕ → ℕ → List ℕ → List ℕ
  row_walk zero p k s x y r t = t
  row_walk (suc n) p k s x y r t = diagonal_walk n p k s x y r (solved s (place p r x) (row_set p k r) t)

-- "With its row's other cell filled", the walk fills the other p - 1 rows
abbrev pub filled : ℕ → ℕ → ℕ → ℕ → ℕ → List ℕ → List ℕ
filled p k s x y t = solved s (place p (extra_row_on p x) (other_disk x y)) (row_set p k (extra_row_on p x)) (started p k s x y t)

unfoldable pub walked : ℕ → ℕ → ℕ → ℕ → ℕ → List ℕ → List ℕ
walked p k s x y t = diagonal_walk (2 * (p - 1)) p k s x y (extra_row_on p x) (filled p k s x y t)

-- 1 is among the n numbers r, r + d, r + 2d, .. mod p
unfoldable pub comes_to_one : ℕ → ℕ → ℕ → ℕ → Bool
comes_to_one zero p d r = false
comes_to_one (suc n) p d r = eqb r 1 || comes_to_one n p d ((r + d) % p)

-- "so chosen that the walk goes through": for a < b, from a to b exactly if a > 0 and 1 is one of
-- the first (p - 1)/2 multiples of b - a
abbrev pub forward : ℕ → ℕ → ℕ → Bool
forward p a b = leb 1 a && comes_to_one ((p - 1) / 2) p (b - a) (b - a)

abbrev pub data_solved : ℕ → ℕ → ℕ → ℕ → ℕ → List ℕ → List ℕ
data_solved p k s a b t = pick (forward p a b) (walked p k s a b t) (walked p k s b a t)

-- A data disk f and P: f by its diagonals, then P by the row sets. The rows go upward, since where
-- the extra cell of a row's diagonal is on f too, it is in a lower row.
unfoldable pub up_diagonals : ℕ → ℕ → ℕ → ℕ → List Step
up_diagonals zero p f j = []
up_diagonals (suc n) p f j = step j 1 (diagonal_of p f j) ∷ up_diagonals n p f (suc j)

abbrev pub with_row_parity : ℕ → ℕ → ℕ → ℕ → List ℕ → List ℕ
with_row_parity p k s f t = followed p k s k (all_of p 0 0) (followed p k s f (up_diagonals p p f 0) t)

-- A data disk f, or P, and Q: f by the row sets, then Q by the diagonal sets. With P this is
-- encoding.
abbrev pub with_diagonal_parity : ℕ → ℕ → ℕ → ℕ → List ℕ → List ℕ
with_diagonal_parity p k s f t = followed p k s (suc k) (all_of p 1 0) (followed p k s f (all_of p 0 0) t)

-- a < b
unfoldable pub ordered_solved : ℕ → ℕ → ℕ → ℕ → ℕ → List ℕ → List ℕ
ordered_solved p k s a b t = pick (ltb b k) (data_solved p k s a b t) (pick (eqb b k) (with_row_parity p k s a t) (with_diagonal_parity p k s a t))

-- two different disks in either order
unfoldable pub pair_solved : ℕ → ℕ → ℕ → ℕ → ℕ → List ℕ → List ℕ
pair_solved p k s a b t = pick (ltb a b) (ordered_solved p k s a b t) (ordered_solved p k s b a t)
