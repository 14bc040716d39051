-- The checksum block of a unit: where each checksum lies, and that the block is sealed.
use mathlib.Core.Path.{◌≡◌, refl, sym, ap, ap₂, ◌∙◌}
use mathlib.Core.Bool.{true}
use mathlib.Core.List.{List}
use Prim.Native.Nat.{ℕ, zero, suc, ◌+◌, ◌*◌, ◌/◌, ◌^◌, ◌<◌}
use native.Mathlib.Nat.{mod-lt}
use native.Mathlib.Omega.{arith}
use lib.Bits.{xor_lt}
use lib.ListN.{length, take, drop, length-append, length-drop}
use lib.Seq.{take_at, drop_at, drop-drop, take-append-le, drop-append-le}
use Rattle.mathematics.specs.Lists.{same}
use Rattle.mathematics.proofs.MemberLaws.{same_true, same_self}
use Rattle.liberation.specs.Stripes.Stripes.{cell_at}
use Rattle.liberation.proofs.Stripes.StripeCellLaws.{cell_fits}
use Rattle.xxh64.specs.Checksum.{prime3, mul, folded, avalanche, xxh64}
use Rattle.unit_sums.specs.Sums.{little_endian, sum_of, sums_from, sums_of, guard_of, block_of, block_long, is_sealed, fits}
use Rattle.unit_sums.proofs.NumberLaws.{length_little, little_same}

-- a checksum is a number of 64 bits: its last step is the XOR of one with a shorter one
product_below : (a b : ℕ) → mul a b < 2 ^ 64
unfolding mul
product_below a b = mod-lt (a * b) (omega arith)

folded_below : (z : ℕ) → z < 2 ^ 64 → folded z 32 < 2 ^ 64
unfolding folded
folded_below z h = xor_lt 64 z (z / 2 ^ 32) h (omega arith)

last_below : (z : ℕ) → avalanche z < 2 ^ 64
unfolding avalanche
last_below z = folded_below (mul _ prime3) (product_below _ prime3)

pub sum_below_lem : (bs : List ℕ) (seed : ℕ) → xxh64 bs seed < 2 ^ 64
unfolding xxh64
sum_below_lem bs seed = last_below _

module _ (p s : ℕ) (name : List ℕ) (unit : ℕ) (t : List ℕ) where
  pub sums_long : (n x : ℕ) → length (sums_from n x p s name unit t) ≡ n * 8
  unfolding sums_from
  sums_long zero x = refl
  sums_long (suc n) x =
      length-append (little_endian 8 (sum_of p name unit x (cell_at s t x))) (sums_from n (suc x) p s name unit t)
      ∙ omega (arith, length_little 8 (sum_of p name unit x (cell_at s t x)), sums_long n (suc x))

  -- the checksum of piece x + y
  pub sums_cell : (n x y : ℕ) → y < n → cell_at 8 (sums_from n x p s name unit t) y ≡ little_endian 8 (sum_of p name unit (x + y) (cell_at s t (x + y)))
  unfolding sums_from
  sums_cell zero x y h = absurd (omega arith)
  sums_cell (suc n) x zero h =
      let e : x ≡ x + 0 = omega arith in
      take_at (little_endian 8 (sum_of p name unit x (cell_at s t x))) (sums_from n (suc x) p s name unit t) 8 (length_little 8 (sum_of p name unit x (cell_at s t x)))
      ∙ ap (λ (z : ℕ). little_endian 8 (sum_of p name unit z (cell_at s t z))) e
  sums_cell (suc n) x (suc y) h =
      let e : suc y * 8 ≡ 8 + y * 8 = omega arith in
      let f : suc x + y ≡ x + suc y = omega arith in
      ap (λ (z : ℕ). take 8 (drop z (sums_from (suc n) x p s name unit t))) e
      ∙ ap (take 8) (sym (drop-drop (y * 8) 8 (sums_from (suc n) x p s name unit t)))
      ∙ ap (λ (l : List ℕ). take 8 (drop (y * 8) l)) (drop_at (little_endian 8 (sum_of p name unit x (cell_at s t x))) (sums_from n (suc x) p s name unit t) 8 (length_little 8 (sum_of p name unit x (cell_at s t x))))
      ∙ sums_cell n (suc x) y (omega arith)
      ∙ ap (λ (z : ℕ). little_endian 8 (sum_of p name unit z (cell_at s t z))) f

module _ (p k s : ℕ) (name : List ℕ) (unit : ℕ) (u : List ℕ) where
  pub block_long_lem : length (block_of p k s name unit u) ≡ block_long p k
  unfolding block_of
  block_long_lem =
      length-append (sums_of p k s name unit u) (little_endian 8 (guard_of name unit (sums_of p k s name unit u)))
      ∙ omega (arith, sums_long p s name unit u (p * (k + 2)) 0, length_little 8 (guard_of name unit (sums_of p k s name unit u)))

  pub block_sealed : is_sealed p k name unit (block_of p k s name unit u) ≡ true
  unfolding block_of is_sealed
  block_sealed =
      let l = sums_long p s name unit u (p * (k + 2)) 0 in
      let g = little_endian 8 (guard_of name unit (sums_of p k s name unit u)) in
      ap₂ (λ (a b : List ℕ). same a (little_endian 8 (guard_of name unit b))) (drop_at (sums_of p k s name unit u) g (p * (k + 2) * 8) l) (take_at (sums_of p k s name unit u) g (p * (k + 2) * 8) l)
      ∙ same_self g

  -- its checksum of piece x
  pub block_cell : (x : ℕ) → x < p * (k + 2) → cell_at 8 (block_of p k s name unit u) x ≡ little_endian 8 (sum_of p name unit x (cell_at s u x))
  unfolding block_of
  block_cell x h =
      let l = sums_long p s name unit u (p * (k + 2)) 0 in
      let f = cell_fits (p * (k + 2)) 8 x h in
      let g = little_endian 8 (guard_of name unit (sums_of p k s name unit u)) in
      let z : 0 + x ≡ x = omega arith in
      ap (take 8) (drop-append-le (x * 8) (sums_of p k s name unit u) g (omega arith))
      ∙ take-append-le 8 (drop (x * 8) (sums_of p k s name unit u)) g (omega (arith, length-drop (x * 8) (sums_of p k s name unit u)))
      ∙ sums_cell p s name unit u (p * (k + 2)) 0 x h
      ∙ ap (λ (y : ℕ). little_endian 8 (sum_of p name unit y (cell_at s u y))) z

  -- its own pieces fit
  pub own_fits : (x : ℕ) → x < p * (k + 2) → fits p s name unit (block_of p k s name unit u) u x ≡ true
  unfolding fits
  own_fits x h =
      ap (λ (l : List ℕ). same l (little_endian 8 (sum_of p name unit x (cell_at s u x)))) (block_cell x h)
      ∙ same_self (little_endian 8 (sum_of p name unit x (cell_at s u x)))

  -- a piece that fits has the same checksum
  pub fits_sum : (t : List ℕ) (x : ℕ) → x < p * (k + 2) → fits p s name unit (block_of p k s name unit u) t x ≡ true → sum_of p name unit x (cell_at s t x) ≡ sum_of p name unit x (cell_at s u x)
  unfolding fits
  fits_sum t x h e =
      sym
      (little_same 8 (sum_of p name unit x (cell_at s u x)) (sum_of p name unit x (cell_at s t x)) (sum_below_lem _ _) (sum_below_lem _ _)
      (sym (block_cell x h) ∙ same_true (cell_at 8 (block_of p k s name unit u) x) (little_endian 8 (sum_of p name unit x (cell_at s t x))) e))
