-- Marks that are toggled, a byte a place: after a list of places, a mark is odd exactly if its
-- place occurs in the list an odd number of times.
use Rattle.std.specs.Prelude.{Bool, List, [], ◌∷◌, ℕ, suc, ◌%◌, eqb, get_or, set}
use Rattle.std.specs.Int.Bits.{bit_xor}
use Rattle.mathematics.specs.Choice.{pick}

abbrev pub is_odd : ℕ → Bool
is_odd m = eqb (m % 2) 1

-- the places of the odd marks, the first mark being that of place i
unfoldable pub odd_from : ℕ → List ℕ → List ℕ
odd_from i [] = []
odd_from i (m ∷ ms) = pick (is_odd m) (i ∷ odd_from (suc i) ms) (odd_from (suc i) ms)

-- the mark of place x toggled, and those of the places of a list, one after another
abbrev pub toggled : ℕ → List ℕ → List ℕ
toggled x ms = set ms x (bit_xor (get_or ms x 0) 1)

unfoldable pub toggled_all : List ℕ → List ℕ → List ℕ
toggled_all [] ms = ms
toggled_all (x ∷ xs) ms = toggled_all xs (toggled x ms)
