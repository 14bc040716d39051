-- The promise of `rebuild_one` (document 01, "A plan for one lost disk"), for accepted and refused
-- calls alike.
use Rattle.std.specs.Prelude.{◌≡◌, true, not, List, ℕ, ◌*◌, eqb, length}
use Rattle.mathematics.specs.Choice.{pick, when, first_of}
use Rattle.mathematics.specs.Xor.{all_bytes}
use Rattle.liberation.specs.Sets.{numbers_refusal}
use Rattle.liberation.specs.Stripes.Stripes.{stripe_long, rebuilt}
use Rattle.refusals.specs.declared.answer.Answer.{Answer}
use Rattle.refusals.specs.Answers.{Answers}

-- the rebuild refuses by 1, 13, 2, 3 and 5: n and m are the bytes of the stripe and of the column
abbrev pub lengths_refusal : ℕ → ℕ → ℕ → ℕ → ℕ → ℕ → ℕ
lengths_refusal p k s f n m = first_of (numbers_refusal p k s f) (first_of (when (not (eqb n (stripe_long p k s))) 5) (when (not (eqb m (p * s))) 5))

-- t is the stripe, o the column
abbrev pub one_refusal : ℕ → ℕ → ℕ → ℕ → List ℕ → List ℕ → ℕ
one_refusal p k s f t o = lengths_refusal p k s f (length t) (length o)

-- a rebuild from the stripe t that refuses by n, 0 for none: the column o becomes o', the new one,
-- or stays as it was on a refusal
pub record Writes (n : ℕ) (new t o o' : List ℕ) (r : Answer) : Type 0 where
  pub answer : Answers n r
  pub column : o' ≡ pick (eqb n 0) new o
  -- what was lent are bytes
  pub bytes : all_bytes t ≡ true

-- by our plan
abbrev pub OneSays : ℕ → ℕ → ℕ → ℕ → List ℕ → List ℕ → List ℕ → Answer → Type 0
OneSays p k s f t o o' r = Writes (one_refusal p k s f t o) (rebuilt p k s f t) t o o' r
