-- Routes by squares counted one by one.
use Rattle.std.specs.Prelude.{List, [], ◌∷◌, ℕ, zero, suc, ◌+◌, ◌-◌, ◌%◌}
use Rattle.mathematics.specs.Choice.{pick}
use Rattle.liberation.specs.BalancedPlan.Squares.{square_to}

-- the routes of m rows from j on: 2 for a diagonal, in the rows that are the square of a number
-- from 1 to n above row a, 1 for a row set
unfoldable pub square_routes : ℕ → ℕ → ℕ → ℕ → ℕ → List ℕ
square_routes zero n p a j = []
square_routes (suc m) n p a j = pick (square_to n p ((j + p - a) % p)) 2 1 ∷ square_routes m n p a (suc j)
