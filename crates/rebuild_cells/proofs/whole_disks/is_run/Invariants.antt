-- `is_run`: the numbers passed are a run.
use Rattle.rebuild_cells.specs.Listed.{RunFrom}
use Rattle.rebuild_cells.proofs.whole_disks.is_run.Given as goal

abbrev pub invariant-loop-i : goal.invariant-loop-i
invariant-loop-i l = RunFrom 0 l.i l.start l.cells
