-- A walk round p rows: turn n goes on by g n rows.
use Rattle.std.specs.Prelude.{List, ℕ, zero, suc, ◌+◌, ◌%◌, set, replicate}

-- the row after n turns from row a on
unfoldable pub row_after : ℕ → ℕ → (ℕ → ℕ) → ℕ → ℕ
row_after p a g zero = a
row_after p a g (suc n) = (row_after p a g n + g n) % p

-- the routes with a diagonal, 2, in the rows that n turns come to, and with row sets, 1, in the others
unfoldable pub walked : ℕ → ℕ → (ℕ → ℕ) → ℕ → List ℕ
walked p a g zero = replicate p 1
walked p a g (suc n) = set (walked p a g n) (row_after p a g (suc n)) 2
