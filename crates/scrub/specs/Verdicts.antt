-- The verdicts of a scrub as values, and which is right.
use Rattle.std.specs.Prelude.{◌≡◌, List, ℕ, eqb}
use Rattle.mathematics.specs.Choice.{pick}
use Rattle.liberation.specs.Scrub.Survivors.{suspect, verdict}
use Rattle.scrub.specs.declared.verdict.Verdict.{Verdict}
use Rattle.scrub.specs.declared.verdict.Verdict.TheVariants.{Clean, OneDisk, MoreThanOne}

abbrev pub verdict_number : Verdict → ℕ
verdict_number Clean = 0
verdict_number (OneDisk _) = 1
verdict_number MoreThanOne = 2

abbrev pub verdict_disk : Verdict → ℕ
verdict_disk Clean = 0
verdict_disk (OneDisk d) = d
verdict_disk MoreThanOne = 0

-- v is the verdict on the stripe t
pub record IsVerdict (p k s : ℕ) (t : List ℕ) (v : Verdict) : Type 0 where
  pub number : verdict_number v ≡ verdict p k s t
  pub disk : verdict_disk v ≡ pick (eqb (verdict p k s t) 1) (suspect p k s t) 0
