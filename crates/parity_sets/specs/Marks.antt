-- Marking cells in a list of bytes, a byte a cell, and counting those not marked before: how a read
-- list and a read count are made.
use Rattle.std.specs.Prelude.{◌≡◌, List, [], ◌∷◌, ℕ, ◌+◌, eqb, get_or, set}
use Rattle.mathematics.specs.Choice.{when}

-- the marks with each cell of xs set to 1
unfoldable pub mark_all : List ℕ → List ℕ → List ℕ
mark_all m [] = m
mark_all m (x ∷ xs) = mark_all (set m x 1) xs

-- how many cells of xs were not marked before their turn
unfoldable pub fresh_in : List ℕ → List ℕ → ℕ
fresh_in m [] = 0
fresh_in m (x ∷ xs) = when (eqb (get_or m x 0) 0) 1 + fresh_in (set m x 1) xs

-- marks m become m', and r of the cells xs were not marked before
pub record Marked (m m' xs : List ℕ) (r : ℕ) : Type 0 where
  pub fresh : r ≡ fresh_in m xs
  pub marks : m' ≡ mark_all m xs
