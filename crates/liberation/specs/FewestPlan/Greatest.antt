-- Where a row of numbers is greatest. Nothing of the code.
use Rattle.std.specs.Prelude.{ℕ, zero, suc, ltb}
use Rattle.mathematics.specs.Choice.{pick}

-- b if s is greater there than at a, else a
abbrev pub better : (ℕ → ℕ) → ℕ → ℕ → ℕ
better s a b = pick (ltb (s a) (s b)) b a

-- the first of the numbers 1 to n + 1 at which s is greatest
unfoldable pub first_most : ℕ → (ℕ → ℕ) → ℕ
first_most zero s = 1
first_most (suc n) s = better s (first_most n s) (suc (suc n))
