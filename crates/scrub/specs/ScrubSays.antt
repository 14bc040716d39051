-- The promise of `scrub_stripe` (document 02, ask 2), for accepted and refused calls alike. The
-- stripe t has p rows and k data disks.
use Rattle.std.specs.Prelude.{◌≡◌, true, ◌&&◌, List, ℕ, eqb}
use Rattle.mathematics.specs.Choice.{pick}
use Rattle.mathematics.specs.Xor.{all_bytes}
use Rattle.liberation.specs.Scrub.Survivors.{suspect, verdict}
use Rattle.refusals.specs.Answers.{Answers}
use Rattle.refusals.specs.StripeSays.{stripe_refusal}
use Rattle.scrub.specs.declared.Scrubbed.{Scrubbed}

-- it refuses by 1, 13, 2 and 5; the disk is the suspect where the verdict is 1, and 0 otherwise
pub record ScrubSays (p k s : ℕ) (t : List ℕ) (r : Scrubbed) : Type 0 where
  pub answer : Answers (stripe_refusal p k s t) r.answer
  pub disk : r.disk ≡ pick (eqb (stripe_refusal p k s t) 0 && eqb (verdict p k s t) 1) (suspect p k s t) 0
  pub verdict : r.verdict ≡ pick (eqb (stripe_refusal p k s t) 0) (verdict p k s t) 0
  -- what was lent are bytes
  pub bytes : all_bytes t ≡ true
