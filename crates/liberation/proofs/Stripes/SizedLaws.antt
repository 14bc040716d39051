-- A stripe within its limits: one that is as long is within them too, and its length counts its
-- cells.
use mathlib.Core.Path.{◌≡◌, ◌∙◌}
use mathlib.Core.List.{List}
use Prim.Native.Nat.{ℕ, ◌+◌, ◌*◌}
use native.Mathlib.Omega.{arith}
use lib.ListN.{length}
use Rattle.liberation.specs.Stripes.StripeLimits.{Sized}

pub sized_kept : (p k s : ℕ) (t u : List ℕ) → Sized p k s t → length u ≡ length t → Sized p k s u
sized_kept p k s t u q e = record { array = q.array; small = q.small; long = e ∙ q.long }

pub sized_long : (p k s : ℕ) (t : List ℕ) → Sized p k s t → length t ≡ p * (k + 2) * s
sized_long p k s t q = q.long ∙ omega arith
