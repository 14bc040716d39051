-- Squares mod p. Nothing of the code.
use Rattle.std.specs.Prelude.{Bool, false, ◌&&◌, ◌||◌, ℕ, zero, suc, ◌+◌, ◌-◌, ◌*◌, ◌%◌, eqb}
use Rattle.mathematics.specs.Choice.{when}
use Rattle.mathematics.specs.Sums.{sum_to}

-- x is the square mod p of a number from 1 to n
unfoldable pub square_to : ℕ → ℕ → ℕ → Bool
square_to zero p x = false
square_to (suc n) p x = eqb x (suc n * suc n % p) || square_to n p x

-- x is a square mod p: that of a number from 1 to p - 1
unfoldable pub is_square : ℕ → ℕ → Bool
is_square p x = square_to (p - 1) p x

-- how many squares there are below p
unfoldable pub squares : ℕ → ℕ
squares p = sum_to p (λ x. when (is_square p x) 1)

-- how many squares x have x - d as a square too
unfoldable pub squares_apart : ℕ → ℕ → ℕ
squares_apart p d = sum_to p (λ x. when (is_square p x && is_square p ((x + p - d) % p)) 1)
