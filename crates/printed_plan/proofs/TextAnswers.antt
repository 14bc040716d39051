-- The record that the library returns: a text written at the start of zeros, and which text it is
-- for an input.
use mathlib.Core.Path.{◌≡◌, ap}
use mathlib.Core.Bool.{Bool, true, false, not}
use mathlib.Core.List.{List}
use Prim.Native.Nat.{ℕ, ◌+◌, ◌-◌, ◌≤◌}
use native.Mathlib.Omega.{arith}
use lib.Dec.{ltb}
use lib.ListN.{length, replicate, length-append}
use Rattle.mathematics.specs.Choice.{when, first_of}
use Rattle.liberation.specs.Sets.{is_width, width_refusal, disk_refusal, plan_refusal}
use Rattle.liberation.proofs.RefusalLaws.{array_same}
use Rattle.printed_plan.specs.Says.{TextIs}
use Rattle.printed_plan.specs.declared.Text.{Text}

-- the bytes that count are there, and they are the text
pub holds_length : {t : List ℕ} {r : Text} → TextIs t r → r.length ≤ length r.bytes
holds_length {t} h = omega (arith, h.size, ap length h.bytes, length-append t (replicate (458 - length t) 0))

-- a full array is refused by 1 and 3 only, small numbers
refusal_full : (p f : ℕ) → plan_refusal p p f ≡ first_of (width_refusal p) (disk_refusal p f)
refusal_full p f = ap (λ (n : ℕ). first_of n (disk_refusal p f)) (array_same p)

pub refusal_small : (p f : ℕ) → plan_refusal p p f ≤ 3
refusal_small p f = omega (arith, refusal_full p f, go (is_width p) (ltb (p + 1) f))
  where
    go : (a b : Bool) → first_of (when (not a) 1) (when b 3) ≤ 3
    go true true = omega arith
    go true false = omega arith
    go false b = omega arith
