-- The extra cell of a set, if it has one on the data disks lo to hi - 1 of a group.
use Rattle.std.specs.Prelude.{List, [], ℕ, leb}
use Rattle.mathematics.specs.Choice.{pick}
use Rattle.liberation.specs.Sets.{extra_disk}
use Rattle.stripe_cells.specs.SetCells.{extra_in}

abbrev pub extra_between : ℕ → ℕ → ℕ → ℕ → ℕ → List ℕ
extra_between p lo hi kind i = pick (leb lo (extra_disk p i)) (extra_in p hi kind i) []
