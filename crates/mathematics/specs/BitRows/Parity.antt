-- Sums of bits: truth values that are added, the sum of those of [0, n) and of those of a list, and
-- the bits of a word.
use Rattle.std.specs.Prelude.{Bool, true, false, not, List, [], ◌∷◌, ℕ, zero, suc, ◌/◌, ◌%◌, ◌^◌, eqb}

-- one of the two holds, and not both
abbrev pub differ : Bool → Bool → Bool
differ true b = not b
differ false b = b

-- f holds for an odd number of the numbers below n
unfoldable pub odd_to : ℕ → (ℕ → Bool) → Bool
odd_to zero f = false
odd_to (suc n) f = differ (f n) (odd_to n f)

-- f holds at an odd number of places of a list
unfoldable pub odd_in : (ℕ → Bool) → List ℕ → Bool
odd_in f [] = false
odd_in f (x ∷ xs) = differ (f x) (odd_in f xs)

-- bit b of the word w
abbrev pub bit : ℕ → ℕ → Bool
bit w b = eqb (w / 2 ^ b % 2) 1
