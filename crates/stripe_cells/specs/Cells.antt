-- What the functions over a stripe ask.
use Rattle.std.specs.Prelude.{◌≡◌, true, ℕ, ◌<◌}
use Rattle.mathematics.specs.Lists.{is_in}
use Rattle.liberation.specs.Sets.{place}
use Rattle.refusals.specs.declared.array.Array.{Array}
use Rattle.parity_sets.specs.declared.set.ParitySet.{ParitySet}
use Rattle.parity_sets.specs.ParitySets.{kind_of, number_of}
use Rattle.stripe_cells.specs.OrdinaryCells.{ordinary_of}

-- row r of disk c holds an ordinary cell of set i
pub record Ordinary (p k kind i c r : ℕ) : Type 0 where
  pub numbered : i < p
  pub row : r < p
  pub own : is_in (place p r c) (ordinary_of p k kind i) ≡ true

-- the same of a set of an array
abbrev pub IsOrdinary : Array → ParitySet → ℕ → ℕ → Type 0
IsOrdinary a s c r = Ordinary a.width a.disks (kind_of s) (number_of s) c r
