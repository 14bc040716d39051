-- The promise of `rebuild_tested` (document 02, ask 11), for accepted and refused calls alike.
use Rattle.std.specs.Prelude.{◌≡◌, true, not, List, ℕ, eqb}
use Rattle.mathematics.specs.Choice.{pick, when, first_of}
use Rattle.mathematics.specs.Xor.{all_bytes}
use Rattle.liberation.specs.Stripes.Stripes.{rebuilt}
use Rattle.liberation.specs.Scrub.Survivors.{fits}
use Rattle.refusals.specs.declared.answer.Answer.{Answer}
use Rattle.refusals.specs.Answers.{Answers}
use Rattle.rebuild_one.specs.RebuildOneSays.{one_refusal}

-- 19, "survivors of no clean stripe", comes last, after the refusals of the rebuild without a test:
-- t is the stripe, o the column
abbrev pub tested_refusal : ℕ → ℕ → ℕ → ℕ → List ℕ → List ℕ → ℕ
tested_refusal p k s f t o = first_of (one_refusal p k s f t o) (when (not (fits p k s f t)) 19)

-- the column o becomes o': the rebuilt disk, or as it was on a refusal
pub record TestedSays (p k s f : ℕ) (t o o' : List ℕ) (r : Answer) : Type 0 where
  pub answer : Answers (tested_refusal p k s f t o) r
  pub column : o' ≡ pick (eqb (tested_refusal p k s f t o) 0) (rebuilt p k s f t) o
  -- what was lent are bytes
  pub bytes : all_bytes t ≡ true
