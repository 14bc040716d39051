-- The promise of `rebuild_cells`, for accepted and refused calls alike.
use Rattle.std.specs.Prelude.{◌≡◌, true, not, List, ℕ, ◌+◌, ◌*◌, eqb}
use Rattle.mathematics.specs.Choice.{pick, when, first_of}
use Rattle.mathematics.specs.Xor.{all_bytes}
use Rattle.liberation.specs.Sets.{shape_refusal, long_refusal}
use Rattle.liberation.specs.Stripes.Stripes.{stripe_long}
use Rattle.rebuild_cells.specs.Theory.Mending.{missing_cells, mendable, mended_cells}
use Rattle.refusals.specs.declared.answer.Answer.{Answer}
use Rattle.refusals.specs.Answers.{Answers}

-- 1, 13, 2, and 5 for the marks and for the stripe
abbrev pub lent_refusal : ℕ → ℕ → ℕ → List ℕ → List ℕ → ℕ
lent_refusal p k s ms t = first_of (shape_refusal p k s) (first_of (long_refusal (p * (k + 2)) ms) (long_refusal (stripe_long p k s) t))

-- then 23: the cells that are not missing do not determine the missing ones
abbrev pub mend_refusal : ℕ → ℕ → ℕ → List ℕ → List ℕ → ℕ
mend_refusal p k s ms t = first_of (lent_refusal p k s ms t) (when (not (mendable p k (missing_cells ms))) 23)

-- the stripe t becomes t': the missing cells mended, or as it was on a refusal
pub record RebuildCellsSays (p k s : ℕ) (ms t t' : List ℕ) (r : Answer) : Type 0 where
  pub answer : Answers (mend_refusal p k s ms t) r
  pub stripe : t' ≡ pick (eqb (mend_refusal p k s ms t) 0) (mended_cells p k s (missing_cells ms) t) t
  -- what was lent are bytes
  pub bytes : all_bytes t ≡ true
