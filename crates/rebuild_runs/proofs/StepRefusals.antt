-- A step that is not refused is a rebuild of one disk.
use mathlib.Core.Path.{◌≡◌, sym, ap, ◌∙◌}
use mathlib.Core.List.{List}
use Prim.Native.Nat.{ℕ, ◌≤◌, ◌<◌}
use lib.Dec.{eqb}
use Rattle.mathematics.specs.Choice.{pick, first_of}
use Rattle.mathematics.proofs.ChoiceLaws.{first_none}
use Rattle.refusals.specs.declared.answer.Answer.{Answer}
use Rattle.refusals.proofs.AnswerLaws.{answers_as, answers_none}
use Rattle.rebuild_one.specs.RebuildOneSays.{one_refusal, OneSays}
use Rattle.rebuild_runs.specs.declared.Run.{Run}
use Rattle.rebuild_runs.specs.Runs.{skipped_refusal, next_refusal}
use Rattle.rebuild_runs.proofs.RunRefusals.{few_skipped, next_stripe}
use Rattle.rebuild_runs.specs.StepSays.{run_step_refusal, run_column, StepSays}

-- a step that is not refused: the rebuild of one disk is not refused, no more are skipped than are
-- past, and it is for the next stripe
pub step_passed : (x : Run) (i : ℕ) (t o : List ℕ) → run_step_refusal x i t o ≡ 0 → (one_refusal x.shape.width x.shape.disks x.shape.cell_size x.lost t o ≡ 0) × ((x.skipped ≤ x.next) × ((i ≡ x.next) × (x.next < x.stripes)))
step_passed x i t o z =
    let q = first_none (one_refusal x.shape.width x.shape.disks x.shape.cell_size x.lost t o) (first_of (skipped_refusal x) (next_refusal x i)) z in
    let r = first_none (skipped_refusal x) (next_refusal x i) q.1 in
    (q.0, (few_skipped x r.0, next_stripe x i r.1))

-- "and rebuilds that stripe": an accepted step is an accepted rebuild of the record's disk, so all
-- that holds of rebuilds holds of steps
pub step_rebuilds : (x x' : Run) (i : ℕ) (t o o' : List ℕ) (a : Answer) → StepSays x x' i t o o' a → a.refusal ≡ 0 → OneSays x.shape.width x.shape.disks x.shape.cell_size x.lost t o o' a
step_rebuilds x x' i t o o' a k z =
    let e : run_step_refusal x i t o ≡ 0 = answers_none (run_step_refusal x i t o) a k.answer z in
    let one = (step_passed x i t o e).0 in
    record {
      answer = answers_as (run_step_refusal x i t o) (one_refusal x.shape.width x.shape.disks x.shape.cell_size x.lost t o) a (e ∙ sym one) k.answer;
      column = k.column ∙ ap (λ (n : ℕ). pick (eqb n 0) (run_column x t) o) (e ∙ sym one);
      bytes = k.bytes;
    }
