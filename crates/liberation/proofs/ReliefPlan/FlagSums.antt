-- Sums of flags: all hold where the count says so; and a sum over the diagonals of one disk's
-- cells.
use mathlib.Core.Path.{◌≡◌, ap, ◌∙◌}
use mathlib.Core.Bool.{Bool, true, false}
use mathlib.Core.Logic.{◌⊎◌, inl, inr, ⊎_elim}
use Prim.Native.Nat.{ℕ, zero, suc, ◌+◌, ◌-◌, ◌%◌, ◌≤◌, ◌<◌}
use native.Mathlib.Omega.{arith}
use Rattle.mathematics.specs.Choice.{when}
use Rattle.mathematics.specs.Sums.{sum_to}
use Rattle.mathematics.proofs.ChoiceLaws.{when_most}
use Rattle.mathematics.proofs.Flags.{flag}
use Rattle.mathematics.proofs.OrderLaws.{lt_or_le}
use Rattle.mathematics.proofs.SumLaws.{sum_suc, sum_ext, sum_const, sum_mono}
use Rattle.mathematics.proofs.ShiftLaws.{sum_shifted}

-- n flags of n hold: all do
pub sum_most : (n : ℕ) (u : ℕ → Bool) → sum_to n (λ i. when (u i) 1) ≤ n
sum_most n u = omega (arith, sum_const n 1, sum_mono n (λ i. when (u i) 1) (λ i. 1) (λ i l. when_most (u i)))

pub sum_full : (n : ℕ) (u : ℕ → Bool) → n ≤ sum_to n (λ i. when (u i) 1) → (i : ℕ) → i < n → u i ≡ true
sum_full zero u h i l = absurd (omega arith)
sum_full (suc n) u h i l =
    ⊎_elim
    (λ m. sum_full n u (omega (arith, sum_suc n (λ j. when (u j) 1), when_most (u n))) i m)
    (λ m. let e : i ≡ n = omega arith in ap u e ∙ last (flag (u n)))
    (lt_or_le i n)
  where
    last : (u n ≡ true) ⊎ (u n ≡ false) → u n ≡ true
    last (inl t) = t
    last (inr t) = absurd (omega (arith, sum_suc n (λ j. when (u j) 1), sum_most n u, ap (λ (b : Bool). when b 1) t))

-- a sum over the diagonals of a data disk's cells is one over all diagonals
pub sum_diagonals : (p c : ℕ) → 0 < p → c ≤ p → (g : ℕ → ℕ) → sum_to p (λ r. g ((r + p - c) % p)) ≡ sum_to p g
sum_diagonals p c some l g = sum_ext p (λ r. g ((r + p - c) % p)) (λ r. g ((r + (p - c)) % p)) (λ r m. let q : r + p - c ≡ r + (p - c) = omega arith in ap (λ (x : ℕ). g (x % p)) q) ∙ sum_shifted p (p - c) some g
