-- The bands add up to the bytes, and no product or sum of a bill wraps, since the rates are at most
-- 1,000 and the bytes at most 2^54: 1,000 × 2^54 is below 2^64.
use mathlib.Core.Path.{◌≡◌, refl}
use mathlib.Core.Bool.{Bool, true, false, ◌||◌}
use Prim.Native.Nat.{ℕ, ◌+◌, ◌-◌, ◌*◌, ◌^◌, ◌≤◌}
use native.Mathlib.Nat.{mul-le-mul_left}
use native.Mathlib.Omega.{arith}
use lib.Dec.{leb, ltb}
use borrow.Author.Tests.{leb-true, leb-false, ltb-false}
use Rattle.mathematics.specs.Choice.{pick}
use Rattle.mathematics.proofs.Flags.{or_false_l, or_false_r}
use Rattle.mathematics.proofs.ChoiceLaws.{first_none, when_none}
use Rattle.billing.specs.Cents.{least, rate_refusal, bytes_refusal, bill_refusal}
use Rattle.billing.specs.Bills.{in_first, in_second, in_third}

-- the smaller of two numbers is at most each of them
pub least_most : (a b : ℕ) → (least a b ≤ a) × (least a b ≤ b)
least_most a b = go (leb a b) refl
  where
    go : (t : Bool) → leb a b ≡ t → (pick t a b ≤ a) × (pick t a b ≤ b)
    go true e = (omega arith, leb-true a b e)
    go false e = (omega (arith, leb-false a b e), omega arith)

least_up : (b g h : ℕ) → g ≤ h → least b g ≤ least b h
least_up b g h l = go (leb b g) (leb b h) refl refl
  where
    go : (s t : Bool) → leb b g ≡ s → leb b h ≡ t → pick s b g ≤ pick t b h
    go true true e q = omega arith
    go true false e q = omega (arith, leb-true b g e)
    go false true e q = omega (arith, leb-false b g e)
    go false false e q = l

-- no refusal: the numbers of an accepted bill, with the bytes up to 64 GiB and up to 1,024 GiB
pub record Fair (b r s t low most : ℕ) : Type 0 where
  pub ordered : low ≤ most
  pub within : most ≤ b
  pub bytes : b ≤ 2 ^ 54
  pub first : low * r ≤ low * 1000
  pub second : (most - low) * s ≤ (most - low) * 1000
  pub third : (b - most) * t ≤ (b - most) * 1000

pub small : (b r s t low most : ℕ) → bill_refusal b r s t ≡ 0 → low ≤ most → most ≤ b → Fair b r s t low most
small b r s t low most e l m =
    let w = first_none (rate_refusal r s t) (bytes_refusal b) e in
    let x : (ltb 1000 r || (ltb 1000 s || ltb 1000 t)) ≡ false = when_none (ltb 1000 r || (ltb 1000 s || ltb 1000 t)) 15 w.0 in
    let y : (ltb 1000 s || ltb 1000 t) ≡ false = or_false_r (ltb 1000 r) (ltb 1000 s || ltb 1000 t) x in
    record {
      ordered = l;
      within = m;
      bytes = ltb-false (2 ^ 54) b (when_none (ltb (2 ^ 54) b) 16 w.1);
      first = mul-le-mul_left low (ltb-false 1000 r (or_false_l (ltb 1000 r) (ltb 1000 s || ltb 1000 t) x));
      second = mul-le-mul_left (most - low) (ltb-false 1000 s (or_false_l (ltb 1000 s) (ltb 1000 t) y));
      third = mul-le-mul_left (b - most) (ltb-false 1000 t (or_false_r (ltb 1000 s) (ltb 1000 t) y));
    }

-- "bytes in each band, adding up to the whole"
pub bands_add : (b : ℕ) → in_first b + in_second b + in_third b ≡ b
bands_add b = omega (arith, least_up b (2 ^ 36) (2 ^ 40) (omega arith), least_most b (2 ^ 40))
