-- The bits of a word: those of an XOR differ where those of the two words do, and a power of two
-- has one alone.
use mathlib.Core.Path.{◌≡◌, refl, sym, ap, ◌∙◌}
use mathlib.Core.Bool.{false}
use mathlib.Core.Logic.{⊎_elim}
use Prim.Native.Nat.{ℕ, zero, suc, ◌+◌, ◌-◌, ◌*◌, ◌/◌, ◌%◌, ◌^◌, ◌<◌, ◌≤◌}
use native.Mathlib.Nat.{mod-lt, lt_of_lt_of_le, div-eq_of_lt, one-mul}
use native.Mathlib.Omega.{arith}
use lib.Bits.{bit_xor, xor_shr, xor_mod}
use lib.Dec.{eqb}
use lib.Pow.{pow-lt, pow_mono, pow-add, shl-shr}
use borrow.Author.Tests.{eq-eqb, ne_eqb}
use Rattle.mathematics.proofs.OrderLaws.{lt_or_gt, eq_or_ne}
use Rattle.mathematics.specs.BitRows.Parity.{differ, bit}

digit : ℕ → ℕ → ℕ
digit w b = w / 2 ^ b % 2

small : (x y : ℕ) → x < 2 → y < 2 → eqb (bit_xor x y) 1 ≡ differ (eqb x 1) (eqb y 1)
small zero zero h k = refl
small zero (suc zero) h k = refl
small (suc zero) zero h k = refl
small (suc zero) (suc zero) h k = refl
small zero (suc (suc y)) h k = absurd (omega arith)
small (suc zero) (suc (suc y)) h k = absurd (omega arith)
small (suc (suc x)) y h k = absurd (omega arith)

pub bit_xor_lem : (v w b : ℕ) → bit (bit_xor v w) b ≡ differ (bit v b) (bit w b)
bit_xor_lem v w b =
    ap (λ (x : ℕ). eqb x 1) (ap (λ (x : ℕ). x % 2) (xor_shr v w b) ∙ xor_mod (v / 2 ^ b) (w / 2 ^ b) 1)
    ∙ small (v / 2 ^ b % 2) (w / 2 ^ b % 2) (mod-lt (v / 2 ^ b) (omega arith)) (mod-lt (w / 2 ^ b) (omega arith))

-- a word below 2 ^ n has no bit from n on
none_past : (w n d : ℕ) → w < 2 ^ n → n ≤ d → w / 2 ^ d % 2 ≡ 0
none_past w n d h l = ap (λ (x : ℕ). x % 2) (div-eq_of_lt (lt_of_lt_of_le h (pow_mono l)))

own : (d : ℕ) → 2 ^ d / 2 ^ d % 2 ≡ 1
own d = ap (λ (x : ℕ). x / 2 ^ d % 2) (sym (one-mul (2 ^ d))) ∙ ap (λ (x : ℕ). x % 2) (shl-shr 1 d)

above : (d e : ℕ) → e < d → 2 ^ d / 2 ^ e % 2 ≡ 0
above d e h =
    let j : ℕ = d - e - 1 in
    let s : d ≡ suc j + e = omega arith in
    let p : 2 ^ d ≡ 2 ^ suc j * 2 ^ e = ap (λ (x : ℕ). 2 ^ x) s ∙ pow-add 2 (suc j) e in
    let even : 2 ^ suc j % 2 ≡ 0 = omega arith in
    ap (λ (x : ℕ). x / 2 ^ e % 2) p ∙ ap (λ (x : ℕ). x % 2) (shl-shr (2 ^ suc j) e) ∙ even

other : (d e : ℕ) → (e ≡ d → ⊥) → 2 ^ d / 2 ^ e % 2 ≡ 0
other d e n = ⊎_elim (λ l. above d e l) (λ g. none_past (2 ^ d) (suc d) e (pow-lt (omega arith)) g) (lt_or_gt e d n)

pub bit_power : (d e : ℕ) → bit (2 ^ d) e ≡ eqb e d
bit_power d e = ⊎_elim same apart (eq_or_ne e d)
  where
    same : e ≡ d → bit (2 ^ d) e ≡ eqb e d
    same q = ap (bit (2 ^ d)) q ∙ ap (λ (x : ℕ). eqb x 1) (own d) ∙ sym (eq-eqb e d q)

    apart : (e ≡ d → ⊥) → bit (2 ^ d) e ≡ eqb e d
    apart q = ap (λ (x : ℕ). eqb x 1) (other d e q) ∙ sym (ne_eqb e d q)

zero_div : (b : ℕ) → 0 / 2 ^ b % 2 ≡ 0
zero_div b = none_past 0 0 b (omega arith) (omega arith)

pub bit_zero : (b : ℕ) → bit 0 b ≡ false
bit_zero b = ap (λ (x : ℕ). eqb x 1) (zero_div b)
