-- Demand 2 and the count of cells said of rebuild runs: a step is a rebuild of its stripe, and what
-- a run has read is counted by the planner's answer for its disk.
use mathlib.Core.Path.{◌≡◌, sym, ap, ◌∙◌}
use mathlib.Core.Bool.{true}
use mathlib.Core.List.{List}
use Prim.Native.Nat.{ℕ, ◌+◌, ◌*◌, ◌<◌}
use Rattle.liberation.specs.Sets.{disk_at}
use Rattle.liberation.proofs.RefusalLaws.{numbers_plan}
use Rattle.liberation.specs.Stripes.Stripes.{cell_at, column_of, is_stripe, clean}
use Rattle.refusals.specs.declared.answer.Answer.{Answer}
use Rattle.planner.specs.declared.Plan.{Plan}
use Rattle.planner.specs.PlanSays.{PlanSays}
use Rattle.rebuild_runs.specs.declared.Run.{Run}
use Rattle.rebuild_runs.specs.declared.RunAnswer.{RunAnswer}
use Rattle.rebuild_runs.specs.declared.progress.Progress.{Progress}
use Rattle.rebuild_runs.specs.Starts.{OpenSays}
use Rattle.rebuild_runs.specs.StepSays.{StepSays}
use Rattle.rebuild_runs.specs.ProgressSays.{ProgressSays}
use Rattle.rebuild_runs.proofs.StepRefusals.{step_rebuilds}
use Rattle.rebuild_runs.specs.WholeRuns.EventSeries.{Event, EventsMade, last_run, stepped}
use Rattle.rebuild_runs.proofs.WholeRuns.MadeLaws.{progress_right}
use Rattle.guarantees.proofs.Stripes.{brings_back}
use Rattle.guarantees.proofs.Plans.{our_reads}

-- Demand 2 for a step: survivors of a clean stripe u bring the record's disk back as it was in u.
pub step_brings_back :
    (x x' : Run) (i : ℕ) (t u o o' : List ℕ) (r : Answer) → is_stripe x.shape.width x.shape.disks x.shape.cell_size u ≡ true → clean x.shape.width x.shape.disks x.shape.cell_size u ≡ true → StepSays x x' i t o o' r → r.refusal ≡ 0
    → ((c : ℕ) → c < x.shape.width * (x.shape.disks + 2) → (disk_at x.shape.width c ≡ x.lost → ⊥) → cell_at x.shape.cell_size t c ≡ cell_at x.shape.cell_size u c) → o' ≡ column_of x.shape.width x.shape.cell_size x.lost u
step_brings_back x x' i t u o o' r v c k z h = brings_back x.shape.width x.shape.disks x.shape.cell_size x.lost t u o o' r v c (step_rebuilds x x' i t o o' r k z) z h

-- "Cells read become rebuilt stripes × the read count": after any calls from the opening on, as
-- many times the planner's count for that disk as steps were accepted
pub cells_counted :
    (p k s f n : ℕ) (r : RunAnswer) (es : List Event) (g : Progress) (q : Plan) → OpenSays p k s f n r → r.answer.refusal ≡ 0 → EventsMade r.run es → ProgressSays (last_run r.run es) g → PlanSays p k f q
    → g.cells ≡ stepped es * q.reads
cells_counted p k s f n r es g q o z m d l =
    let w = numbers_plan p k s f (sym o.answer.refusal ∙ z) in
    (progress_right p k s f n r es g o z m d).cells ∙ ap (λ (i : ℕ). stepped es * i) (sym (our_reads p k f q l (l.answer.refusal ∙ w)))
