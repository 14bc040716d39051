-- The mend cell by cell in any order: each step writes a missing cell as it is to be in the end,
-- from cells that are not missing or were written before.
use Rattle.std.specs.Prelude.{◌≡◌, true, false, List, ℕ, ◌+◌, ◌*◌, ◌≤◌, ◌<◌, length, get_or, replicate}
use Rattle.mathematics.specs.Lists.{is_in}
use Rattle.mathematics.specs.BitRows.Parity.{bit}
use Rattle.liberation.specs.Stripes.Stripes.{cell_at, xor_over, is_stripe}
use Rattle.rebuild_cells.specs.Theory.Mending.{reduced_cells, mendable, odd_cells}
use Rattle.rebuild_cells.specs.Listed.{ListedCells}

-- what is lent: missing cells that can be mended, and the sums of their reduced rows
pub record Reducible (p k : ℕ) (cs ws : List ℕ) : Type 0 where
  pub listed : ListedCells p k cs
  pub ok : mendable p k cs ≡ true
  pub sums : ws ≡ (reduced_cells p k cs).left.sums
  pub long : length ws ≡ 2 * p
  pub room : length cs ≤ 2 * p

-- a stripe in which the odd cells of the sets that a missing cell's row names XOR to zero
pub record Target (p k s : ℕ) (cs ws u : List ℕ) : Type 0 where
  pub stripe : is_stripe p k s u ≡ true
  pub zeros : (b : ℕ) → b < length cs → xor_over s (cell_at s u) (odd_cells p k (get_or ws b 0)) ≡ replicate s 0

-- t agrees with u but in the missing cells that the word `left` names
pub record Near (p k s : ℕ) (cs u : List ℕ) (left : ℕ) (t : List ℕ) : Type 0 where
  pub stripe : is_stripe p k s t ≡ true
  pub alike : (y : ℕ) → y < p * (k + 2) → ((c : ℕ) → c < length cs → bit left c ≡ true → y ≡ get_or cs c 0 → ⊥) → cell_at s t y ≡ cell_at s u y

-- the odd cells of the sets that the word w names give missing cell b: no other one among them is
-- left
pub record Gives (p k : ℕ) (cs ws : List ℕ) (left b w : ℕ) : Type 0 where
  pub zeros : (s : ℕ) (u : List ℕ) → Target p k s cs ws u → xor_over s (cell_at s u) (odd_cells p k w) ≡ replicate s 0
  pub held : is_in (get_or cs b 0) (odd_cells p k w) ≡ true
  pub lone : (c : ℕ) → c < length cs → bit left c ≡ true → (c ≡ b → ⊥) → is_in (get_or cs c 0) (odd_cells p k w) ≡ false

-- so for every cell that is left
abbrev pub Given : ℕ → ℕ → List ℕ → List ℕ → ℕ → List ℕ → Type 0
Given p k cs ws left ns = (b : ℕ) → b < length cs → bit left b ≡ true → Gives p k cs ws left b (get_or ns b 0)
