-- The promise of `update_cell` (document 02, ask 4), for accepted and refused calls alike: p rows,
-- k data disks, cells of s bytes.
use Rattle.std.specs.Prelude.{◌≡◌, true, not, List, ℕ, eqb, leb, length}
use Rattle.mathematics.specs.Choice.{pick, when, first_of}
use Rattle.mathematics.specs.Xor.{all_bytes}
use Rattle.liberation.specs.Sets.{shape_refusal}
use Rattle.liberation.specs.Stripes.Stripes.{stripe_long}
use Rattle.liberation.specs.Update.Updates.{updated}
use Rattle.refusals.specs.declared.answer.Answer.{Answer}
use Rattle.refusals.specs.Answers.{Answers}

-- "P and Q as the disk give refusal 3"; "15: row p or more"
abbrev pub data_refusal : ℕ → ℕ → ℕ
data_refusal k c = when (leb k c) 3

abbrev pub row_refusal : ℕ → ℕ → ℕ
row_refusal p r = when (leb p r) 15

-- an update refuses by 1, 13, 2, 3, 5 and 15: n and m are the bytes of the stripe and of the new
-- cell
abbrev pub update_lengths_refusal : ℕ → ℕ → ℕ → ℕ → ℕ → ℕ → ℕ → ℕ
update_lengths_refusal p k s r c n m = first_of (shape_refusal p k s) (first_of (data_refusal k c) (first_of (when (not (eqb n (stripe_long p k s))) 5) (first_of (when (not (eqb m s)) 5) (row_refusal p r))))

-- t is the stripe, new the new cell
abbrev pub update_refusal : ℕ → ℕ → ℕ → ℕ → ℕ → List ℕ → List ℕ → ℕ
update_refusal p k s r c t new = update_lengths_refusal p k s r c (length t) (length new)

-- the stripe t becomes t': updated, or as it was on a refusal
pub record UpdateSays (p k s r c : ℕ) (t new t' : List ℕ) (a : Answer) : Type 0 where
  pub answer : Answers (update_refusal p k s r c t new) a
  pub stripe : t' ≡ pick (eqb (update_refusal p k s r c t new) 0) (updated p k s r c new t) t
  -- what was lent are bytes
  pub bytes : all_bytes t ≡ true
  pub cell_bytes : all_bytes new ≡ true
