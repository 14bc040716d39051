-- A run as it is opened (document 01, "Run and space"), the promise of opening for accepted and
-- refused calls alike, and records of earlier versions as ones of today.
use Rattle.std.specs.Prelude.{◌≡◌, ℕ, eqb, Result}
use Rattle.mathematics.specs.Choice.{pick}
use Rattle.liberation.specs.Sets.{numbers_refusal}
use Rattle.refusals.specs.declared.refusal.Refusal.{Refusal}
use Rattle.refusals.specs.Answers.{Answers}
use Rattle.refusals.specs.Refused.{refused}
use Rattle.rebuild_runs.specs.Runs.{run_after}
use Rattle.rebuild_runs.specs.declared.Run.{Run}
use Rattle.rebuild_runs.specs.declared.RunAnswer.{RunAnswer}
use Rattle.rebuild_runs.specs.declared.starts.FullRun.{FullRun}
use Rattle.rebuild_runs.specs.declared.starts.DisksRun.{DisksRun}

-- a run as it is opened
abbrev pub opened : ℕ → ℕ → ℕ → ℕ → ℕ → Run
opened p k s f n = record { shape = record { width = p; disks = k; cell_size = s }; lost = f; stripes = n; next = 0; skipped = 0 }

-- the record that a refused opening gives
abbrev pub no_run : Run
no_run = opened 0 0 0 0 0

-- the answer that an opening gives by its run or its refusal
pub record OpensBy (x : Result Run Refusal) (r : RunAnswer) : Type 0 where
  pub answer : Answers (refused x) r.answer
  pub run : r.run ≡ run_after no_run x

-- opening a run
pub record OpenSays (p k s f n : ℕ) (r : RunAnswer) : Type 0 where
  pub answer : Answers (numbers_refusal p k s f) r.answer
  pub run : r.run ≡ pick (eqb (numbers_refusal p k s f) 0) (opened p k s f n) no_run

-- "the run's record gains k, which is p for a run already open", and "goes on with skipped = 0":
-- the record of document 01 as one of today
abbrev pub resumed : FullRun → Run
resumed y = record { shape = record { width = y.width; disks = y.width; cell_size = y.size }; lost = y.disk; stripes = y.stripes; next = y.next; skipped = 0 }

-- "A run open when the software is updated goes on with skipped = 0": the record before ask 8 as
-- one of today
abbrev pub resumed_disks : DisksRun → Run
resumed_disks y = record { shape = y.shape; lost = y.lost; stripes = y.stripes; next = y.next; skipped = 0 }
