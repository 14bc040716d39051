-- Two lost data disks x and y: the start's sets are summed into the lost cells that they will give,
-- and the walk's last steps add to them what the sets have of other lost cells.
use Rattle.std.specs.Prelude.{List, [], ◌∷◌, ◌++◌, ℕ, zero, suc, ◌-◌, ◌/◌}
use Rattle.liberation.specs.Sets.{place, row_set, lost_in, surviving_in, set_of}
use Rattle.liberation.specs.Plans.{extra_row_on, diagonal_of}
use Rattle.liberation.specs.Stripes.Stripes.{cell_at, with_cell, xor_over, solved}
use Rattle.liberation.specs.Stripes.Steps.{CellStep, cell_step}
use Rattle.liberation.specs.TwoDisks.Pairs.{next_row, first_cell, diagonal_walk, forward}
use Rattle.liberation.specs.TwoDisks.PairSteps.{PairPlan, walk_steps}
use Rattle.mathematics.specs.Choice.{pick}

-- the cells of a list on neither disk
abbrev pub survivors_of : ℕ → ℕ → ℕ → List ℕ → List ℕ
survivors_of p x y xs = surviving_in p x (surviving_in p y xs)

-- disk f's cells in these rows
unfoldable pub placed : ℕ → ℕ → List ℕ → List ℕ
placed p f [] = []
placed p f (r ∷ rs) = place p r f ∷ placed p f rs

-- the cells of a list on disk x, then those on disk y
abbrev pub lost_cells : ℕ → ℕ → ℕ → List ℕ → List ℕ
lost_cells p x y xs = placed p x (lost_in p x xs) ++ placed p y (lost_in p y xs)

-- a step's cell becomes the XOR of its set's surviving cells
abbrev pub summed : ℕ → ℕ → ℕ → ℕ → ℕ → CellStep → List ℕ → List ℕ
summed p k s x y c t = with_cell s c.cell (xor_over s (cell_at s t) (survivors_of p x y (set_of p k c.kind c.number))) t

unfoldable pub summed_all : ℕ → ℕ → ℕ → ℕ → ℕ → List CellStep → List ℕ → List ℕ
summed_all p k s x y [] t = t
summed_all p k s x y (c ∷ cs) t = summed_all p k s x y cs (summed p k s x y c t)

-- a step's cell becomes the XOR of its set's lost cells, of which it is one
abbrev pub sum_added : ℕ → ℕ → ℕ → ℕ → ℕ → CellStep → List ℕ → List ℕ
sum_added p k s x y c t = with_cell s c.cell (xor_over s (cell_at s t) (lost_cells p x y (set_of p k c.kind c.number))) t

unfoldable pub added_all : ℕ → ℕ → ℕ → ℕ → ℕ → List CellStep → List ℕ → List ℕ
added_all p k s x y [] t = t
added_all p k s x y (c ∷ cs) t = added_all p k s x y cs (sum_added p k s x y c t)

-- the start's sets with the cells that they give: R r gives (r, x), and D (r - x) the cell of disk
-- y in the next row
unfoldable pub start_steps : ℕ → ℕ → ℕ → ℕ → ℕ → List CellStep
start_steps zero p x y r = []
start_steps (suc n) p x y r = cell_step (place p r x) 0 r ∷ (cell_step (place p (next_row p x y r) y) 1 (diagonal_of p x r) ∷ start_steps n p x y (next_row p x y r))

-- the walk's last steps: those from the row of the extra cell on y on, its cell of disk y standing
abbrev pub last_steps : ℕ → ℕ → ℕ → ℕ → List CellStep
last_steps m p x y = cell_step (place p (extra_row_on p y) x) 0 (extra_row_on p y) ∷ walk_steps m p x y (extra_row_on p y)

-- the cells of steps
unfoldable pub cells_of : List CellStep → List ℕ
cells_of [] = []
cells_of (c ∷ cs) = c.cell ∷ cells_of cs

-- the start's steps: (p - 1)/2 rows from that of the extra cell on y on. The last of them gives the
-- first cell of the walk
abbrev pub sum_steps : ℕ → ℕ → ℕ → List CellStep
sum_steps p x y = start_steps ((p - 1) / 2) p x y (extra_row_on p y)

-- the first cell becomes the XOR of all their cells, of which it is one
abbrev pub first_added : ℕ → ℕ → ℕ → ℕ → List ℕ → List ℕ
first_added p s x y t = with_cell s (place p (extra_row_on p x) y) (xor_over s (cell_at s t) (cells_of (sum_steps p x y))) t

-- the start: sums, and the first cell from them
abbrev pub sum_started : ℕ → ℕ → ℕ → ℕ → ℕ → List ℕ → List ℕ
sum_started p k s x y t = first_added p s x y (summed_all p k s x y (sum_steps p x y) t)

-- then the other cell of the first cell's row, the walk until the cell of disk y in the row of its
-- extra cell stands, and the last steps
abbrev pub sum_walked : ℕ → ℕ → ℕ → ℕ → ℕ → List ℕ → List ℕ
sum_walked p k s x y t =
    added_all p k s x y (last_steps ((p - 1) / 2 - 1) p x y)
    (diagonal_walk p p k s x y (extra_row_on p x) (solved s (place p (extra_row_on p x) x) (row_set p k (extra_row_on p x)) (sum_started p k s x y t)))

-- the walk's steps of n rows from row r on, and the diagonal step after them
unfoldable pub rows_and_one : ℕ → ℕ → ℕ → ℕ → ℕ → List CellStep
rows_and_one zero p x y r = cell_step (place p (next_row p x y r) y) 1 (diagonal_of p x r) ∷ []
rows_and_one (suc n) p x y r =
    cell_step (place p (next_row p x y r) y) 1 (diagonal_of p x r) ∷ (cell_step (place p (next_row p x y r) x) 0 (next_row p x y r) ∷ rows_and_one n p x y (next_row p x y r))

-- the steps of the walk from sums after its first cell: those that solve, then those that add
abbrev pub solved_steps : ℕ → ℕ → ℕ → List CellStep
solved_steps p x y = cell_step (place p (extra_row_on p x) x) 0 (extra_row_on p x) ∷ rows_and_one ((p - 1) / 2) p x y (extra_row_on p x)

abbrev pub added_steps : ℕ → ℕ → ℕ → List CellStep
added_steps p x y = last_steps ((p - 1) / 2 - 1) p x y

abbrev pub sum_plan : ℕ → ℕ → ℕ → ℕ → ℕ → PairPlan
sum_plan p k s x y = record { first = first_cell p x y ∷ []; start = sum_started p k s x y; steps = solved_steps p x y ++ added_steps p x y }

-- two data disks a < b, a not disk 0, in the order in which the walk goes through
abbrev pub data_sum_plan : ℕ → ℕ → ℕ → ℕ → ℕ → PairPlan
data_sum_plan p k s a b = pick (forward p a b) (sum_plan p k s a b) (sum_plan p k s b a)
