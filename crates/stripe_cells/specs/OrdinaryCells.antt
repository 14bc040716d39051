-- The ordinary cells of a set, whose offsets are pushed into a list, and what the functions that
-- push a set ask.
use Rattle.std.specs.Prelude.{List, ℕ, suc, eqb}
use Rattle.mathematics.specs.Choice.{pick}
use Rattle.liberation.specs.Sets.{row_set, ordinary, surviving_in}

-- the cells on neither of the disks x and y
abbrev pub survivors : ℕ → ℕ → ℕ → List ℕ → List ℕ
survivors p x y xs = surviving_in p x (surviving_in p y xs)

-- a set's ordinary cells, one of each data disk and the parity cell; the disk of the parity cell
abbrev pub ordinary_of : ℕ → ℕ → ℕ → ℕ → List ℕ
ordinary_of p k kind i = pick (eqb kind 0) (row_set p k i) (ordinary p k i)

abbrev pub parity_disk : ℕ → ℕ → ℕ
parity_disk k kind = pick (eqb kind 0) k (suc k)
