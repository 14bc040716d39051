-- The parity sets of the code as values: a row set or a diagonal set, and its number.
use Rattle.std.specs.Prelude.{List, ℕ, zero, suc}
use Rattle.liberation.specs.Sets.{set_of}
use Rattle.parity_sets.specs.declared.set.ParitySet.{ParitySet}
use Rattle.parity_sets.specs.declared.set.ParitySet.TheVariants.{Row, Diagonal}

-- the kind as the definitions number it, 0 for a row set, 1 for a diagonal set
abbrev pub kind_of : ParitySet → ℕ
kind_of (Row _) = 0
kind_of (Diagonal _) = 1

abbrev pub number_of : ParitySet → ℕ
number_of (Row i) = i
number_of (Diagonal i) = i

-- its cells in an array of width p with k data disks
abbrev pub cells_of : ℕ → ℕ → ParitySet → List ℕ
cells_of p k s = set_of p k (kind_of s) (number_of s)

-- the set of a kind and a number
abbrev pub parity_set : ℕ → ℕ → ParitySet
parity_set zero i = Row i
parity_set (suc _) i = Diagonal i
