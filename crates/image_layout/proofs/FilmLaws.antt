-- The film's bytes are numbered by stripe, disk, row and byte of the cell as by four digits, so the
-- number says the digits and the digits the number.
use mathlib.Core.Path.{◌≡◌, ap, ◌∙◌}
use Prim.Native.Nat.{ℕ, ◌+◌, ◌*◌, ◌/◌, ◌%◌, ◌<◌}
use native.Mathlib.Nat.{div-add-mod', div-lt_iff_lt-mul}
use native.Mathlib.Omega.{arith}
use lib.Arith.{digits_lt, digits_div, digits_mod}

-- x < k·p·s, its cell, disk and row
module _ (k p s : ℕ) (hp : 0 < p) (hs : 0 < s) where
  pub cell_below : (x : ℕ) → x < k * (p * s) → x / s < k * p
  cell_below x h = (div-lt_iff_lt-mul hs).1 (omega (arith, h))

  pub disk_below : (x : ℕ) → x < k * (p * s) → x / s / p < k
  disk_below x h = (div-lt_iff_lt-mul hp).1 (cell_below x h)

  -- the number of a byte of a data cell within its stripe
  pub number_below : (c i b : ℕ) → c < k → i < p → b < s → (c * p + i) * s + b < k * (p * s)
  number_below c i b hc hi hb =
      let d : c * p + i < k * p = digits_lt hc hi in
      let e : (c * p + i) * s + b < k * p * s = digits_lt d hb in
      omega (arith, e)

-- digits to number
pub number_of : (f p s n : ℕ) → n / f * f + ((n % f / s / p * p + n % f / s % p) * s + n % f % s) ≡ n
number_of f p s n =
    let x = n % f in
    let c : (x / s / p * p + x / s % p) * s ≡ x / s * s = ap (λ (y : ℕ). y * s) (div-add-mod' (x / s) p) in
    let d : x / s * s + x % s ≡ x = div-add-mod' x s in
    let e : n / f * f + x ≡ n = div-add-mod' n f in
    let g : (x / s / p * p + x / s % p) * s + x % s ≡ x = ap (λ (y : ℕ). y + x % s) c ∙ d in
    ap (λ (y : ℕ). n / f * f + y) g ∙ e

-- number to digits
module _ (f p s m c i b : ℕ) (hi : i < p) (hb : b < s) (hf : (c * p + i) * s + b < f) where
  pub digit_stripe : (m * f + ((c * p + i) * s + b)) / f ≡ m
  digit_stripe = digits_div m hf

  rest : (m * f + ((c * p + i) * s + b)) % f ≡ (c * p + i) * s + b
  rest = digits_mod m hf

  cell : (m * f + ((c * p + i) * s + b)) % f / s ≡ c * p + i
  cell = ap (λ (x : ℕ). x / s) rest ∙ digits_div (c * p + i) hb

  pub digit_byte : (m * f + ((c * p + i) * s + b)) % f % s ≡ b
  digit_byte = ap (λ (x : ℕ). x % s) rest ∙ digits_mod (c * p + i) hb

  pub digit_disk : (m * f + ((c * p + i) * s + b)) % f / s / p ≡ c
  digit_disk = ap (λ (x : ℕ). x / p) cell ∙ digits_div c hi

  pub digit_row : (m * f + ((c * p + i) * s + b)) % f / s % p ≡ i
  digit_row = ap (λ (x : ℕ). x % p) cell ∙ digits_mod c hi
