-- The promise of `seal_unit`, for accepted and refused calls alike.
use Rattle.std.specs.Prelude.{◌≡◌, List, ℕ, ◌*◌, eqb, length}
use Rattle.mathematics.specs.Choice.{pick}
use Rattle.refusals.specs.declared.answer.Answer.{Answer}
use Rattle.refusals.specs.Answers.{Answers}
use Rattle.unit_sums.specs.Sums.{block_of}
use Rattle.unit_sums.specs.Refusals.{unit_refusal}

-- the block becomes that of the unit t, or is unchanged on a refusal
pub record SealSays (p k s n : ℕ) (name : List ℕ) (unit : ℕ) (t block block' : List ℕ) (r : Answer) : Type 0 where
  pub answer : Answers (unit_refusal p k s n (length name) (length block) (length t)) r
  pub written : block' ≡ pick (eqb (unit_refusal p k s n (length name) (length block) (length t)) 0) (block_of p k (n * s) name unit t) block
