-- A step of a rebuild run (document 01, "Run and space"): its refusals, and what it does to the
-- record and to the lent column, for accepted and refused steps alike.
use Rattle.std.specs.Prelude.{◌≡◌, Bool, true, List, ℕ, eqb, length}
use Rattle.mathematics.specs.Choice.{pick, first_of}
use Rattle.mathematics.specs.Xor.{all_bytes}
use Rattle.liberation.specs.Stripes.Stripes.{rebuilt}
use Rattle.refusals.specs.declared.answer.Answer.{Answer}
use Rattle.refusals.specs.Answers.{Answers}
use Rattle.rebuild_one.specs.RebuildOneSays.{lengths_refusal}
use Rattle.rebuild_runs.specs.declared.Run.{Run}
use Rattle.rebuild_runs.specs.Runs.{skipped_refusal, next_refusal, moved_by}

-- a step for stripe i refuses by 1, 13, 2, 3, 5 and 10: n and m are the bytes of the stripe and of
-- the column
abbrev pub step_lengths_refusal : Run → ℕ → ℕ → ℕ → ℕ
step_lengths_refusal x i n m = first_of (lengths_refusal x.shape.width x.shape.disks x.shape.cell_size x.lost n m) (first_of (skipped_refusal x) (next_refusal x i))

-- t is the stripe, o the column
abbrev pub run_step_refusal : Run → ℕ → List ℕ → List ℕ → ℕ
run_step_refusal x i t o = step_lengths_refusal x i (length t) (length o)

abbrev pub step_ok : Run → ℕ → List ℕ → List ℕ → Bool
step_ok x i t o = eqb (run_step_refusal x i t o) 0

-- "rebuilds that stripe"
abbrev pub run_column : Run → List ℕ → List ℕ
run_column x t = rebuilt x.shape.width x.shape.disks x.shape.cell_size x.lost t

-- a step for stripe i: x, o before it and x', o' after it
pub record StepSays (x x' : Run) (i : ℕ) (t o o' : List ℕ) (r : Answer) : Type 0 where
  pub answer : Answers (run_step_refusal x i t o) r
  pub run : x' ≡ pick (step_ok x i t o) (moved_by x 0) x
  pub column : o' ≡ pick (step_ok x i t o) (run_column x t) o
  -- what was lent are bytes
  pub bytes : all_bytes t ≡ true
