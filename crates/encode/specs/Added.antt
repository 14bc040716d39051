-- A group of data disks added to the parity cells of several sets, of one kind and of both.
use Rattle.std.specs.Prelude.{◌≡◌, ◌⊎◌, List, ℕ, ◌+◌, ◌*◌, ◌≤◌, ◌<◌}
use Rattle.liberation.specs.Stripes.Stripes.{cell_at}
use Rattle.encode.specs.Groups.{parity_cell, group_sum}

-- the stripe t has become u: of one kind, `count` sets from number `from` on have the group added
-- to their parity cells, and those of the other sets are as they were
pub record KindAdded (p k s lo hi kind from count : ℕ) (t u : List ℕ) : Type 0 where
  pub done : (i : ℕ) → from ≤ i → i < from + count → cell_at s u (parity_cell p k kind i) ≡ group_sum p k s lo hi kind i t
  pub other : (i : ℕ) → i < p → (i < from) ⊎ (from + count ≤ i) → cell_at s u (parity_cell p k kind i) ≡ cell_at s t (parity_cell p k kind i)

-- the stripe t has become u: `count` row sets from number `row` on and as many diagonal sets from
-- `number` on have the group added to their parity cells, and data cells are as they were
pub record SetsAdded (p k s lo hi row number count : ℕ) (t u : List ℕ) : Type 0 where
  pub same : (x : ℕ) → x < p * k → cell_at s u x ≡ cell_at s t x
  pub rows : KindAdded p k s lo hi 0 row count t u
  pub diagonals : KindAdded p k s lo hi 1 number count t u
