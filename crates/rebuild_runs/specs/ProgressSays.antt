-- How far a rebuild run is (document 01, "Run and space", and document 02, ask 8): whether it is
-- over, the cells read, and the promise of the call, for accepted and refused calls alike.
use Rattle.std.specs.Prelude.{◌≡◌, Bool, false, ◌&&◌, ℕ, ◌-◌, ◌*◌, ◌≤◌, eqb}
use Rattle.mathematics.specs.Choice.{pick}
use Rattle.liberation.specs.Plans.{plan_of, read_count}
use Rattle.refusals.specs.Answers.{Answers}
use Rattle.rebuild_runs.specs.declared.Run.{Run}
use Rattle.rebuild_runs.specs.Runs.{read_refusal}
use Rattle.rebuild_runs.specs.declared.progress.Progress.{Progress}

-- "The run is over exactly when next equals N"
abbrev pub is_over : Run → Bool
is_over x = eqb x.next x.stripes

-- the read count of our plan for the record's disk
abbrev pub reads_of : Run → ℕ
reads_of x = read_count x.shape.width x.shape.disks x.lost (plan_of x.shape.width x.shape.disks x.lost)

-- "Cells read become rebuilt stripes × the read count": rebuilt are "next less skipped"
abbrev pub cells_so_far : Run → ℕ
cells_so_far x = (x.next - x.skipped) * reads_of x

-- a refusal by number n
pub record ProgressRefused (n : ℕ) (r : Progress) : Type 0 where
  pub answer : Answers n r.answer
  pub over : r.over ≡ false
  pub cells : r.cells ≡ 0

-- reading a record
pub record ProgressSays (x : Run) (r : Progress) : Type 0 where
  pub answer : Answers (read_refusal x) r.answer
  pub over : r.over ≡ (eqb (read_refusal x) 0 && is_over x)
  pub cells : r.cells ≡ pick (eqb (read_refusal x) 0) (cells_so_far x) 0
  -- at most 2^32 - 1 stripes, each with at most 31 × 33 cells: few enough to be multiplied by s
  pub few : r.cells ≤ 4294967295 * 1023
