-- The promise of encoding (document 01, "Stripe and sets"), for accepted and refused calls alike.
-- Stripes have p rows and k data disks.
use Rattle.std.specs.Prelude.{◌≡◌, true, List, ℕ, eqb}
use Rattle.mathematics.specs.Choice.{pick}
use Rattle.mathematics.specs.Xor.{all_bytes}
use Rattle.liberation.specs.Stripes.Stripes.{encoded}
use Rattle.refusals.specs.declared.answer.Answer.{Answer}
use Rattle.refusals.specs.Answers.{Answers}
use Rattle.refusals.specs.StripeSays.{stripe_refusal}

-- the stripe t becomes t': encoded, or as it was on a refusal
pub record EncodeSays (p k s : ℕ) (t t' : List ℕ) (r : Answer) : Type 0 where
  pub answer : Answers (stripe_refusal p k s t) r
  pub stripe : t' ≡ pick (eqb (stripe_refusal p k s t) 0) (encoded p k s t) t
  -- what was lent are bytes
  pub bytes : all_bytes t ≡ true
