-- The promise of the check, for accepted and refused calls alike. Stripes have p rows and k data
-- disks.
use Rattle.std.specs.Prelude.{◌≡◌, true, ◌&&◌, List, ℕ, eqb}
use Rattle.mathematics.specs.Xor.{all_bytes}
use Rattle.liberation.specs.Stripes.Stripes.{clean}
use Rattle.refusals.specs.Answers.{Answers}
use Rattle.refusals.specs.StripeSays.{stripe_refusal}
use Rattle.scrub.specs.declared.clean.Checked.{Checked}

-- "The check says yes exactly for clean stripes."
pub record CheckSays (p k s : ℕ) (t : List ℕ) (r : Checked) : Type 0 where
  pub answer : Answers (stripe_refusal p k s t) r.answer
  pub clean : r.clean ≡ (eqb (stripe_refusal p k s t) 0 && clean p k s t)
  -- what was lent are bytes
  pub bytes : all_bytes t ≡ true
