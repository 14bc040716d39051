-- The loop over the groups, after each of which the parity cells hold the sums over the data disks
-- that are done.
use mathlib.Core.Path.{◌≡◌, refl, ap, ◌∙◌}
use mathlib.Core.Bool.{true}
use mathlib.Core.List.{List}
use Prim.Native.Nat.{ℕ, ◌+◌, ◌*◌, ◌≤◌, ◌<◌}
use native.Mathlib.Omega.{arith}
use lib.ListN.{length}
use Rattle.mathematics.specs.Xor.{all_bytes}
use Rattle.liberation.specs.Stripes.Stripes.{cell_at, encoded}
use Rattle.liberation.proofs.Stripes.Solving.{stripe_of, clean_of}
use Rattle.liberation.proofs.Stripes.Encoding.{encoded_only}
use Rattle.encode.specs.Groups.{parity_cell}
use Rattle.encode.specs.Added.{SetsAdded}
use Rattle.encode.proofs.ParityCells.{DataSame}
use Rattle.encode.proofs.GroupSums.{sum_below, sum_more, sum_clean}

-- data cells are as they were, and the parity cells of the stripe u hold the sums over the data
-- disks below c of the stripe t; before the first group nothing is said of them
pub record Summed (p k s c : ℕ) (t u : List ℕ) : Type 0 where
  pub same : DataSame p k s t u
  pub rows : 0 < c → (i : ℕ) → i < p → cell_at s u (parity_cell p k 0 i) ≡ sum_below p s c 0 i t
  pub diagonals : 0 < c → (i : ℕ) → i < p → cell_at s u (parity_cell p k 1 i) ≡ sum_below p s c 1 i t

pub summed_none : (p k s : ℕ) (t : List ℕ) → Summed p k s 0 t t
summed_none p k s t = record { same = λ x h. refl; rows = λ h. absurd (omega arith); diagonals = λ h. absurd (omega arith) }

-- a group added
pub summed_turn : (p k s lo hi : ℕ) (t u v : List ℕ) → lo ≤ hi → hi ≤ k → length t ≡ p * (k + 2) * s → Summed p k s lo t u → SetsAdded p k s lo hi 0 0 p u v → Summed p k s hi t v
summed_turn p k s lo hi t u v h l long a b =
    record {
      same = λ x q. b.same x q ∙ a.same x q;
      rows = λ n i q. b.rows.done i (omega arith) (omega arith) ∙ sum_more p k s 0 i q t u long a.same lo hi h l (λ m. a.rows m i q);
      diagonals = λ n i q. b.diagonals.done i (omega arith) (omega arith) ∙ sum_more p k s 1 i q t u long a.same lo hi h l (λ m. a.diagonals m i q);
    }

-- all groups added: every set is clean, and only the encoded stripe is clean with those data
pub summed_all_lem : (p k s c : ℕ) (t u : List ℕ) → c ≡ k → 0 < k → length t ≡ p * (k + 2) * s → length u ≡ p * (k + 2) * s → all_bytes t ≡ true → all_bytes u ≡ true → Summed p k s c t u → u ≡ encoded p k s t
summed_all_lem p k s c t u e some tlong ulong tbytes ubytes a =
    encoded_only p k s t (stripe_of p k s t tlong tbytes) u (stripe_of p k s u ulong ubytes)
    (clean_of p k s u
    (λ i h. sum_clean p k s 0 i h t u tlong a.same ulong (a.rows (omega arith) i h ∙ ap (λ (n : ℕ). sum_below p s n 0 i t) e))
    (λ i h. sum_clean p k s 1 i h t u tlong a.same ulong (a.diagonals (omega arith) i h ∙ ap (λ (n : ℕ). sum_below p s n 1 i t) e)))
    a.same
