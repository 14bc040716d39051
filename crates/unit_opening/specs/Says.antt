-- The promise of `open_unit`, for accepted and refused calls alike.
use Rattle.std.specs.Prelude.{◌≡◌, Bool, true, List, ℕ, ◌*◌, eqb}
use Rattle.mathematics.specs.Choice.{pick}
use Rattle.mathematics.specs.Xor.{all_bytes}
use Rattle.refusals.specs.declared.answer.Answer.{Answer}
use Rattle.refusals.specs.Answers.{Answers}
use Rattle.rebuild_cells.specs.Theory.Mending.{mendable, mended_cells}
use Rattle.unit_opening.specs.Opening.{missing_pieces, fit_marks}
use Rattle.unit_opening.specs.Refusals.{open_refusal}

-- a unit within the limits, with pieces of s bytes, where m says whether its pieces are mended
pub record OpenedTo (p k s : ℕ) (name : List ℕ) (unit : ℕ) (block ms ms' t t' : List ℕ) (m : Bool) : Type 0 where
  pub mends : m ≡ mendable p k (missing_pieces p k s name unit block ms t)
  pub cells : t' ≡ pick m (mended_cells p k s (missing_pieces p k s name unit block ms t) t) t
  pub marks : ms' ≡ pick m (fit_marks p k s name unit block t') ms
  pub bytes : all_bytes t ≡ true

-- the call: the unit t becomes t', its missing pieces mended, and the marks ms become ms', which say
-- which pieces of t' do not fit; on a refusal both are unchanged
pub record OpenSays (p k s n : ℕ) (name : List ℕ) (unit : ℕ) (block ms ms' t t' : List ℕ) (r : Answer) : Type 0 where
  pub answer : Answers (open_refusal p k s n name unit block ms t) r
  pub cells : t' ≡ pick (eqb (open_refusal p k s n name unit block ms t) 0) (mended_cells p k (n * s) (missing_pieces p k (n * s) name unit block ms t) t) t
  pub marks : ms' ≡ pick (eqb (open_refusal p k s n name unit block ms t) 0) (fit_marks p k (n * s) name unit block t') ms
  -- what was given are bytes
  pub bytes : all_bytes t ≡ true
