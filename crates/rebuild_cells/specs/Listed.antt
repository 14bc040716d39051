-- A list of missing cells that is not too long for a word, and what the mend of whole disks makes
-- of a stripe.
use Rattle.std.specs.Prelude.{◌≡◌, Bool, true, false, not, Result, List, ℕ, ◌+◌, ◌*◌, ◌≤◌, ◌<◌, length, get_or}
use Rattle.mathematics.specs.Choice.{pick, when}
use Rattle.mathematics.specs.Lists.{all_below, distinct}
use Rattle.rebuild_cells.specs.Theory.Mending.{mendable, mended_cells}
use Rattle.refusals.specs.declared.array.Geometry.{Geometry}
use Rattle.refusals.specs.declared.refusal.Refusal.{Refusal}
use Rattle.refusals.specs.Refused.{refused}

pub record ListedCells (p k : ℕ) (cs : List ℕ) : Type 0 where
  pub few : length cs ≤ 62
  pub below : all_below (p * (k + 2)) cs ≡ true
  pub once : distinct cs ≡ true

-- n numbers of a list from index i on are x, x + 1 and so on
abbrev pub RunFrom : ℕ → ℕ → ℕ → List ℕ → Type 0
RunFrom i n x cs = (j : ℕ) → j < n → get_or cs (i + j) 0 ≡ x + j

-- the stripe t becomes t', mended where r says so; else it is unchanged
pub record WholeMended (p k s : ℕ) (cs t t' : List ℕ) (r : Bool) : Type 0 where
  pub mended : r ≡ true → (mendable p k cs ≡ true) × (t' ≡ mended_cells p k s cs t)
  pub stands : r ≡ false → t' ≡ t

-- the stripe t becomes t', mended, or unchanged by a refusal: 23 where the other cells do not
-- determine the missing ones
pub record Mended (g : Geometry) (cs t t' : List ℕ) (r : Result Unit Refusal) : Type 0 where
  pub refusal : refused r ≡ when (not (mendable g.array.width g.array.disks cs)) 23
  pub stripe : t' ≡ pick (mendable g.array.width g.array.disks cs) (mended_cells g.array.width g.array.disks g.cell_size cs t) t
