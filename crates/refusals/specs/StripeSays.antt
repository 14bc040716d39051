-- The refusals of a call on a stripe (document 01, "Stripe and sets"). Stripes have p rows and k
-- data disks.
use Rattle.std.specs.Prelude.{List, ℕ}
use Rattle.mathematics.specs.Choice.{first_of}
use Rattle.liberation.specs.Sets.{shape_refusal, long_refusal}
use Rattle.liberation.specs.Stripes.Stripes.{stripe_long}

-- encoding, the check and the scrub refuse by 1, 13, 2 and 5
abbrev pub stripe_refusal : ℕ → ℕ → ℕ → List ℕ → ℕ
stripe_refusal p k s t = first_of (shape_refusal p k s) (long_refusal (stripe_long p k s) t)
