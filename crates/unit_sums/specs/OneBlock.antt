-- One checksum block compared with its guard: the refusals and the promise.
use Rattle.std.specs.Prelude.{not, List, ℕ, length}
use Rattle.mathematics.specs.Choice.{when, first_of}
use Rattle.liberation.specs.Sets.{array_refusal}
use Rattle.refusals.specs.declared.answer.Answer.{Answer}
use Rattle.refusals.specs.Answers.{Answers}
use Rattle.unit_sums.specs.Sums.{block_long, is_sealed}
use Rattle.unit_sums.specs.Refusals.{length_refusal}

-- 1, 13 and 5: a and b are the lengths of the set's name and of the block
abbrev pub block_refusal : ℕ → ℕ → ℕ → ℕ → ℕ
block_refusal p k a b = first_of (array_refusal p k) (first_of (length_refusal 16 a) (length_refusal (block_long p k) b))

-- then 24
abbrev pub guard_refusal : ℕ → ℕ → List ℕ → ℕ → List ℕ → ℕ
guard_refusal p k name unit block =
    first_of (block_refusal p k (length name) (length block)) (when (not (is_sealed p k name unit block)) 24)

pub record BlockSays (p k : ℕ) (name : List ℕ) (unit : ℕ) (block : List ℕ) (r : Answer) : Type 0 where
  pub answer : Answers (guard_refusal p k name unit block) r
