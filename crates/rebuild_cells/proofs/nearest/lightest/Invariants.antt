-- `lightest`: of the unknowns looked at one that is left is chosen, or none is left.
use lib.ListN.{length}
use Rattle.rebuild_cells.specs.Renewed.{Chosen}
use Rattle.rebuild_cells.proofs.nearest.lightest.Given as goal

abbrev pub invariant-loop-x : goal.invariant-loop-x
invariant-loop-x l = Chosen (length l.near) l.x l.left l.best
