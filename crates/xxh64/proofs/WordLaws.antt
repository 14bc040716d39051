-- Words of 64 bits: two shifts that make a rotation.
use mathlib.Core.Path.{◌≡◌, sym, ap, ap₂, ◌∙◌}
use Prim.Native.Nat.{ℕ, ◌+◌, ◌-◌, ◌*◌, ◌/◌, ◌%◌, ◌^◌, ◌<◌, ◌≤◌}
use native.Mathlib.Nat.{mul-mod_left, add-zero, le_of_lt, lt_of_le_of_lt, mul-le-mul_left}
use native.Mathlib.Omega.{arith}
use lib.Bits.{bit_or, or_shifted, or_shifted_r}
use lib.Pow.{shl-shr, shr_lt, mod-pow-add, shl_lt, shl_exact}
use Rattle.xxh64.specs.Checksum.{rotl}

-- what is shifted out at the top comes in below
pub rotation_is : (x k : ℕ) → x < 2 ^ 64 → k < 64 → bit_or (x * 2 ^ k % 2 ^ 64) (x / 2 ^ (64 - k)) ≡ rotl x k
unfolding rotl
rotation_is x k hx hk =
    ap (λ (n : ℕ). bit_or n (x / 2 ^ (64 - k))) kept ∙ or_shifted (x % 2 ^ (64 - k)) k (x / 2 ^ (64 - k)) small ∙ ap (λ (n : ℕ). n + x / 2 ^ (64 - k)) (sym kept)
  where
    whole : 64 - k + k ≡ 64
    whole = omega arith

    other : k + (64 - k) ≡ 64
    other = omega arith

    kept : x * 2 ^ k % 2 ^ 64 ≡ x % 2 ^ (64 - k) * 2 ^ k
    kept =
        ap (λ (n : ℕ). x * 2 ^ k % 2 ^ n) (sym whole)
        ∙ mod-pow-add (x * 2 ^ k) (64 - k) k
        ∙ ap₂ (λ (n m : ℕ). n % 2 ^ (64 - k) * 2 ^ k + m) (shl-shr x k) (mul-mod_left x (2 ^ k))
        ∙ add-zero (x % 2 ^ (64 - k) * 2 ^ k)

    small : x / 2 ^ (64 - k) < 2 ^ k
    small = shr_lt k (64 - k) (rw other hx)

-- a product of two halves fits
pub half_product : {a b : ℕ} → a < 2 ^ 32 → b < 2 ^ 32 → a * b < 2 ^ 64
half_product {a} {b} ha hb = lt_of_le_of_lt (mul-le-mul_left a (le_of_lt hb)) (shl_lt 32 32 ha)

-- two words of k bits as one
pub joined_is : (low high k : ℕ) → k ≤ 32 → low < 2 ^ k → high < 2 ^ k → bit_or low (high * 2 ^ k % 2 ^ 64) ≡ high * 2 ^ k + low
joined_is low high k h hl hh = ap (bit_or low) (shl_exact k k 64 hh (omega arith)) ∙ or_shifted_r high k low hl
