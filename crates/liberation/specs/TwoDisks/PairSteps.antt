-- The steps of the rebuild of two lost disks as a list, and the test that every lost cell of a
-- step's set but the one written stands before it.
use Rattle.std.specs.Prelude.{Bool, true, ◌&&◌, ◌||◌, not, List, [], ◌∷◌, ◌++◌, ℕ, zero, suc, ◌-◌, eqb, ltb, leb}
use Rattle.mathematics.specs.Choice.{pick}
use Rattle.mathematics.specs.Lists.{is_in}
use Rattle.liberation.specs.Sets.{place, disk_at, set_of}
use Rattle.liberation.specs.Plans.{extra_row_on, diagonal_of, all_of}
use Rattle.liberation.specs.Stripes.Steps.{CellStep, cell_step, on_disk, known}
use Rattle.liberation.specs.TwoDisks.Pairs.{next_row, other_disk, first_cell, started, forward, up_diagonals}

-- the walk from row r on: a diagonal step and a row step for each of n rows
unfoldable pub walk_steps : ℕ → ℕ → ℕ → ℕ → ℕ → List CellStep
walk_steps zero p x y r = []
walk_steps (suc n) p x y r =
    cell_step (place p (next_row p x y r) y) 1 (diagonal_of p x r) ∷ (cell_step (place p (next_row p x y r) x) 0 (next_row p x y r) ∷ walk_steps n p x y (next_row p x y r))

-- after the first cell: its row's other cell, then the walk
unfoldable pub data_steps : ℕ → ℕ → ℕ → List CellStep
data_steps p x y = cell_step (place p (extra_row_on p x) (other_disk x y)) 0 (extra_row_on p x) ∷ walk_steps (p - 1) p x y (extra_row_on p x)

abbrev pub row_parity_steps : ℕ → ℕ → ℕ → List CellStep
row_parity_steps p k f = on_disk p f (up_diagonals p p f 0) ++ on_disk p k (all_of p 0 0)

abbrev pub diagonal_parity_steps : ℕ → ℕ → ℕ → List CellStep
diagonal_parity_steps p k f = on_disk p f (all_of p 0 0) ++ on_disk p (suc k) (all_of p 1 0)

-- a rebuild of two lost disks: the cells that stand before its steps, the stripe that these are
-- done on, and the steps
pub record PairPlan : Type 0 where
  pub first : List ℕ
  pub start : List ℕ → List ℕ
  pub steps : List CellStep

-- two data disks in the order of the walk: the first cell, then the steps
abbrev pub walk_plan : ℕ → ℕ → ℕ → ℕ → ℕ → PairPlan
walk_plan p k s x y = record { first = first_cell p x y ∷ []; start = started p k s x y; steps = data_steps p x y }

-- with a parity disk: steps alone
abbrev pub steps_alone : List CellStep → PairPlan
steps_alone cs = record { first = []; start = λ t. t; steps = cs }

-- a < b, and in either order
unfoldable pub ordered_plan : ℕ → ℕ → ℕ → ℕ → ℕ → PairPlan
ordered_plan p k s a b = pick (ltb b k) (pick (forward p a b) (walk_plan p k s a b) (walk_plan p k s b a)) (pick (eqb b k) (steps_alone (row_parity_steps p k a)) (steps_alone (diagonal_parity_steps p k a)))

abbrev pub pair_plan : ℕ → ℕ → ℕ → ℕ → ℕ → PairPlan
pair_plan p k s a b = pick (ltb a b) (ordered_plan p k s a b) (ordered_plan p k s b a)

-- a cell on one of the lost disks a and b
abbrev pub is_lost : ℕ → ℕ → ℕ → ℕ → Bool
is_lost p a b x = eqb (disk_at p x) a || eqb (disk_at p x) b

-- it survives, or it stands
abbrev pub is_known : ℕ → ℕ → ℕ → List ℕ → ℕ → Bool
is_known p a b done x = known (is_lost p a b) done x

unfoldable pub all_known : ℕ → ℕ → ℕ → List ℕ → List ℕ → Bool
all_known p a b done [] = true
all_known p a b done (x ∷ xs) = is_known p a b done x && all_known p a b done xs

-- the set exists and holds the lost cell, which does not stand yet, and all its other cells are
-- known
unfoldable pub step_stands : ℕ → ℕ → ℕ → ℕ → List ℕ → CellStep → Bool
step_stands p k a b done c =
    (leb c.kind 1 && ltb c.number p)
    && ((is_in c.cell (set_of p k c.kind c.number) && not (is_known p a b done c.cell)) && all_known p a b (c.cell ∷ done) (set_of p k c.kind c.number))

-- step after step; done are the cells that stand before
unfoldable pub steps_stand : ℕ → ℕ → ℕ → ℕ → List ℕ → List CellStep → Bool
steps_stand p k a b done [] = true
steps_stand p k a b done (c ∷ cs) = step_stands p k a b done c && steps_stand p k a b (c.cell ∷ done) cs
