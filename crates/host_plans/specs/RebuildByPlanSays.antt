-- The promise of `rebuild_by_plan`, for accepted and refused calls alike. p is the width, k the
-- number of data disks, s the bytes of a cell, f the lost disk, bs the plan, t the stripe, o the
-- column.
use Rattle.std.specs.Prelude.{◌≡◌, true, List, ℕ, ◌*◌}
use Rattle.mathematics.specs.Choice.{first_of}
use Rattle.mathematics.specs.Xor.{all_bytes}
use Rattle.liberation.specs.Sets.{numbers_refusal, long_refusal}
use Rattle.liberation.specs.Judging.{judge, steps_in}
use Rattle.liberation.specs.Stripes.Stripes.{stripe_long, rebuilt_by}
use Rattle.refusals.specs.declared.answer.Answer.{Answer}
use Rattle.judge.specs.JudgeSays.{DecidesOn}

-- refusals before any step is looked at: 1, 13, 2, 3, 5
abbrev pub call_refusal : ℕ → ℕ → ℕ → ℕ → List ℕ → List ℕ → List ℕ → ℕ
call_refusal p k s f bs t o = first_of (numbers_refusal p k s f) (first_of (long_refusal (3 * p) bs) (first_of (long_refusal (stripe_long p k s) t) (long_refusal (p * s) o)))

-- then the judge's: the column o becomes o', the disk rebuilt by the plan, or stays as it was on a
-- refusal
pub record ByPlanSays (p k s f : ℕ) (bs t o o' : List ℕ) (r : Answer) : Type 0 where
  pub decides : DecidesOn (call_refusal p k s f bs t o) (judge p k f (steps_in p bs)) (rebuilt_by p k s f (steps_in p bs) t) o o' r
  -- what was lent are bytes
  pub bytes : all_bytes t ≡ true
