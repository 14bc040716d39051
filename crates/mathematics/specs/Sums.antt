-- Finite sums over [0, n) and over a list, the ones of a list, a test of all numbers below n, and
-- the first that passes one.
use Rattle.std.specs.Prelude.{Bool, true, ◌&&◌, List, [], ◌∷◌, ℕ, zero, suc, ◌+◌, eqb}
use Rattle.mathematics.specs.Choice.{pick, when}

-- f 0 + .. + f (n - 1)
unfoldable pub sum_to : ℕ → (ℕ → ℕ) → ℕ
sum_to zero f = 0
sum_to (suc n) f = sum_to n f + f n

-- the sum of a list
unfoldable pub total : List ℕ → ℕ
total [] = 0
total (x ∷ xs) = x + total xs

-- how many ones a list has
unfoldable pub ones_in : List ℕ → ℕ
ones_in [] = 0
ones_in (x ∷ xs) = when (eqb x 1) 1 + ones_in xs

-- f i holds for every i below n
unfoldable pub all_to : ℕ → (ℕ → Bool) → Bool
all_to zero f = true
all_to (suc n) f = all_to n f && f n

-- the first of the n numbers from d on for which f holds, else d + n
unfoldable pub first_from : ℕ → ℕ → (ℕ → Bool) → ℕ
first_from zero d f = d
first_from (suc n) d f = pick (f d) d (first_from n (suc d) f)

-- the first number below n for which f holds, else n
abbrev pub first_below : ℕ → (ℕ → Bool) → ℕ
first_below n f = first_from n 0 f
