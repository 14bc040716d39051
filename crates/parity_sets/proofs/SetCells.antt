-- The cells of a row set and of a diagonal set, place by place: which there are, and where each is.
use mathlib.Core.Path.{◌≡◌, refl, ap, ◌∙◌}
use mathlib.Core.Logic.{⊎_elim}
use Prim.Native.Nat.{ℕ, ◌+◌, ◌-◌, ◌*◌, ◌%◌, ◌≤◌, ◌<◌}
use native.Mathlib.Nat.{mod-eq_of_lt}
use native.Mathlib.Omega.{arith}
use lib.ListN.{length, get_or}
use Rattle.mathematics.proofs.OrderLaws.{lt_or_le}
use Rattle.liberation.specs.Sets.{set_of, extra_disk}
use Rattle.liberation.proofs.SetSizes.{size_row, size_first_diagonal, size_absent, size_extra, size_most, cell_row, cell_data, cell_parity, cell_extra}
use Rattle.parity_sets.specs.declared.set.ParitySet.{ParitySet}
use Rattle.parity_sets.specs.declared.set.ParitySet.TheVariants.{Row, Diagonal}
use Rattle.parity_sets.specs.ParitySets.{cells_of}

-- x is the cell at place `at` of a set
abbrev pub IsCell : ℕ → ℕ → ParitySet → ℕ → ℕ → Type 0
IsCell p k s at x = (at < length (cells_of p k s)) × (x ≡ get_or (cells_of p k s) at 0)

-- the set has no more cells than that
abbrev pub IsPast : ℕ → ℕ → ParitySet → ℕ → Type 0
IsPast p k s at = length (cells_of p k s) ≤ at

pub row_at : (p k i at : ℕ) (s : ParitySet) → s ≡ Row i → at ≤ k → IsCell p k s at (at * p + i)
row_at p k i at s e h = rw e (go (omega (arith, size_row p k 0 i refl)))
  where
    go : at < length (set_of p k 0 i) → IsCell p k (Row i) at (at * p + i)
    go w = (w, cell_row p k 0 i at refl w)

pub row_past : (p k i at : ℕ) (s : ParitySet) → s ≡ Row i → k < at → IsPast p k s at
row_past p k i at s e h = rw e (omega (arith, size_row p k 0 i refl))

-- a diagonal set is no row set
other : ◌≡◌ {A = ℕ} 1 0 → ⊥
other e = absurd (omega arith)

-- it has a cell of each data disk and Q's, and at most one more
least : (p k i : ℕ) → k + 1 ≤ length (set_of p k 1 i)
least p k i = ⊎_elim (λ h. omega (arith, first h)) (λ h. ⊎_elim (λ m. omega (arith, size_extra p k 1 i other (λ e. absurd (omega arith)) m)) (λ m. omega (arith, size_absent p k 1 i other (λ e. absurd (omega arith)) m)) (lt_or_le (extra_disk p i) k)) (lt_or_le i 1)
  where
    first : i < 1 → k + 1 ≡ length (set_of p k 1 i)
    first h = size_first_diagonal p k 1 i other (omega arith)

pub data_at : (p k i at r : ℕ) (s : ParitySet) → s ≡ Diagonal i → at < k → r ≡ (i + at) % p → IsCell p k s at (at * p + r)
data_at p k i at r s e h q = rw e (omega (arith, least p k i), ap (λ (n : ℕ). at * p + n) q ∙ cell_data p k 1 i at other h)

pub parity_at : (p k i at : ℕ) (s : ParitySet) → s ≡ Diagonal i → at ≡ k → IsCell p k s at ((k + 1) * p + i)
parity_at p k i at s e h = rw e (omega (arith, least p k i), cell_parity p k 1 i at other h)

-- D 0 has none: its disk would be the one past the width
extra_first : (p i : ℕ) → 0 < p → i ≡ 0 → p ≤ extra_disk p i
extra_first p i h e = rw e (omega (arith, mod-eq_of_lt {n = 0} {m = p} h))

-- d is the disk of the extra cell
pub extra_at : (p k i at d : ℕ) (s : ParitySet) → 0 < p → k ≤ p → s ≡ Diagonal i → at ≡ k + 1 → d ≡ extra_disk p i → d < k → IsCell p k s at (d * p + (p - 1 - i))
extra_at p k i at d s o q e h f l = rw (e, f) (go (omega (arith, size_extra p k 1 i other n m)))
  where
    m : extra_disk p i < k
    m = rw f at l

    n : i ≡ 0 → ⊥
    n z = absurd (omega (arith, extra_first p i o z))

    go : at < length (set_of p k 1 i) → IsCell p k (Diagonal i) at (extra_disk p i * p + (p - 1 - i))
    go w = (w, cell_extra p k 1 i at other (omega arith) (λ z. absurd (omega arith)) w)

pub extra_absent : (p k i at : ℕ) (s : ParitySet) → s ≡ Diagonal i → at ≡ k + 1 → k ≤ extra_disk p i → IsPast p k s at
extra_absent p k i at s e h d = rw e (⊎_elim (λ z. omega (arith, size_first_diagonal p k 1 i other (omega arith))) (λ z. omega (arith, size_absent p k 1 i other (λ q. absurd (omega arith)) d)) (lt_or_le i 1))

pub diagonal_past : (p k i at : ℕ) (s : ParitySet) → s ≡ Diagonal i → k + 1 < at → IsPast p k s at
diagonal_past p k i at s e h = rw e (omega (arith, size_most p k 1 i))
