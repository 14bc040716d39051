-- A word that names one set alone: the row set of a cell, or the diagonal that has it as an
-- ordinary cell.
use Rattle.std.specs.Prelude.{◌≡◌, ℕ, ◌+◌, ◌^◌, ◌<◌}
use Rattle.liberation.specs.Plans.{diagonal_of}
use Rattle.parity_sets.specs.declared.set.ParitySet.{ParitySet}
use Rattle.parity_sets.specs.declared.set.ParitySet.TheVariants.{Row, Diagonal}
use Rattle.refusals.specs.declared.array.Array.{Array}

-- the set that the word w names, of the cell of disk c and row r
abbrev pub IsAlone : Array → ℕ → ℕ → ℕ → ParitySet → Type 0
IsAlone a c r w (Row i) = (i ≡ r) × (w ≡ 2 ^ i)
IsAlone a c r w (Diagonal d) = (d < a.width) × (w ≡ 2 ^ (a.width + d)) × (c < a.disks → d ≡ diagonal_of a.width c r)
