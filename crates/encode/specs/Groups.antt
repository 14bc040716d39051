-- Parity sums by groups of data disks lo to hi - 1: the cells that a group adds to a set's sum, and
-- the stripe once they are added.
use Rattle.std.specs.Prelude.{List, [], ◌∷◌, ◌++◌, ℕ, ◌-◌, eqb}
use Rattle.mathematics.specs.Choice.{pick}
use Rattle.liberation.specs.Sets.{place}
use Rattle.liberation.specs.Stripes.Stripes.{cell_at, with_cell, xor_over}
use Rattle.stripe_cells.specs.Offsets.{cells_from}
use Rattle.stripe_cells.specs.OrdinaryCells.{parity_disk}
use Rattle.encode.specs.Extras.{extra_between}

-- a set's data cells on disks lo to hi - 1; from disk 0 on they are its data cells below hi
unfoldable pub group_cells : ℕ → ℕ → ℕ → ℕ → ℕ → List ℕ
group_cells p lo hi kind i = cells_from kind (hi - lo) p i lo ++ extra_between p lo hi kind i

-- the place of a set's parity cell: P's cell i for row set i, Q's for diagonal set i
abbrev pub parity_cell : ℕ → ℕ → ℕ → ℕ → ℕ
parity_cell p k kind i = place p i (parity_disk k kind)

-- the cells that are added up for a set's parity cell: the cell itself, but in the first group, and
-- the set's data cells of the group
abbrev pub group_sources : ℕ → ℕ → ℕ → ℕ → ℕ → ℕ → List ℕ
group_sources p k lo hi kind i = pick (eqb lo 0) [] (parity_cell p k kind i ∷ []) ++ group_cells p lo hi kind i

-- their XOR, and the stripe t with it at the parity cell
unfoldable pub group_sum : ℕ → ℕ → ℕ → ℕ → ℕ → ℕ → ℕ → List ℕ → List ℕ
group_sum p k s lo hi kind i t = xor_over s (cell_at s t) (group_sources p k lo hi kind i)

abbrev pub added_set : ℕ → ℕ → ℕ → ℕ → ℕ → ℕ → ℕ → List ℕ → List ℕ
added_set p k s lo hi kind i t = with_cell s (parity_cell p k kind i) (group_sum p k s lo hi kind i t) t
