-- What the functions over a data cell and its parity cells ask.
use Rattle.std.specs.Prelude.{◌≡◌, List, ℕ, ◌%◌, ◌≤◌, ◌<◌, length}
use Rattle.liberation.specs.Stripes.Stripes.{stripe_long}

-- row r of data disk c is a cell of the stripe t, within the widest array
pub record DataCell (p k s r c : ℕ) (t : List ℕ) : Type 0 where
  pub odd : p % 2 ≡ 1
  pub widest : p ≤ 31
  pub disks : k ≤ p
  pub row : r < p
  pub disk : c < k
  pub long : length t ≡ stripe_long p k s
