-- Refusals 1, 13, 2 and 5 of a call on a stripe: past them it is within the limits.
use mathlib.Core.Path.{◌≡◌}
use mathlib.Core.List.{List}
use Prim.Native.Nat.{ℕ, ◌+◌, ◌*◌, ◌≤◌}
use native.Mathlib.Omega.{arith}
use Rattle.mathematics.proofs.ChoiceLaws.{first_none}
use Rattle.liberation.specs.Sets.{long_refusal, disk_refusal, shape_refusal, numbers_refusal}
use Rattle.liberation.proofs.RefusalLaws.{long_of, shape_of, shape_most}
use Rattle.liberation.specs.Stripes.Stripes.{stripe_long}
use Rattle.liberation.specs.Stripes.StripeLimits.{Sized}
use Rattle.refusals.specs.StripeSays.{stripe_refusal}

-- a stripe within the limits, with a disk of it, has few enough bytes to count
pub numbers_most : (p k s f : ℕ) → numbers_refusal p k s f ≡ 0 → (p ≤ 31) × (k ≤ p) × (p * s ≤ 126976) × ((k + 2) * (p * s) ≤ 4190208)
numbers_most p k s f e = shape_most p k s (first_none (shape_refusal p k s) (disk_refusal k f) e).0

-- no refusal: the stripe is within the limits
pub refusal_none : (p k s : ℕ) (t : List ℕ) → stripe_refusal p k s t ≡ 0 → Sized p k s t
refusal_none p k s t e =
    let w = first_none (shape_refusal p k s) (long_refusal (stripe_long p k s) t) e in
    let q = shape_of p k s w.0 in
    record { array = q.0; small = omega (arith, q.2); long = long_of (stripe_long p k s) t w.1 }
