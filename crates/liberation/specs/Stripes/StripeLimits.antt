-- The limits of a stripe that is lent (document 01, "Reasons to turn a call away").
use Rattle.std.specs.Prelude.{◌≡◌, List, ℕ, ◌≤◌, length}
use Rattle.liberation.specs.Limits.{InArray, largest_cell}
use Rattle.liberation.specs.Stripes.Stripes.{stripe_long}

-- what refusals 1, 13, 2 and 5 leave, and more, since s may be 0 or up to the largest cell: t has
-- the length of a stripe of p rows and k data disks with cells of s bytes
pub record Sized (p k s : ℕ) (t : List ℕ) : Type 0 where
  pub array : InArray p k
  pub small : s ≤ largest_cell
  pub long : length t ≡ stripe_long p k s
