-- The promise of `rebuild_two`, for accepted and refused calls alike.
use Rattle.std.specs.Prelude.{◌≡◌, true, List, ℕ, eqb}
use Rattle.mathematics.specs.Choice.{pick, when, first_of}
use Rattle.mathematics.specs.Xor.{all_bytes}
use Rattle.liberation.specs.Sets.{numbers_refusal, disk_refusal, long_refusal}
use Rattle.liberation.specs.Stripes.Stripes.{stripe_long}
use Rattle.liberation.specs.TwoDisks.Pairs.{pair_solved}
use Rattle.refusals.specs.declared.answer.Answer.{Answer}
use Rattle.refusals.specs.Answers.{Answers}

-- the rebuild refuses by 1, 13, 2, 3, 4 and 5: a and b are the lost disks, t is the stripe
abbrev pub two_refusal : ℕ → ℕ → ℕ → ℕ → ℕ → List ℕ → ℕ
two_refusal p k s a b t = first_of (numbers_refusal p k s a) (first_of (disk_refusal k b) (first_of (when (eqb a b) 4) (long_refusal (stripe_long p k s) t)))

-- the stripe t becomes t': both disks rebuilt, or as it was on a refusal
pub record TwoSays (p k s a b : ℕ) (t t' : List ℕ) (r : Answer) : Type 0 where
  pub answer : Answers (two_refusal p k s a b t) r
  pub stripe : t' ≡ pick (eqb (two_refusal p k s a b t) 0) (pair_solved p k s a b t) t
  -- what was lent are bytes
  pub bytes : all_bytes t ≡ true
