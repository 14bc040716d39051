-- `of_marks`: the cells listed, with those still to come, are all.
use mathlib.Core.Path.{◌≡◌}
use mathlib.Core.List.{◌++◌}
use Prim.Native.Nat.{◌≤◌}
use lib.ListN.{length}
use Rattle.rebuild_cells.specs.Theory.Mending.{missing_cells}
use Rattle.rebuild_cells.proofs.MarkLoops.{rest_from}
use Rattle.rebuild_cells.proofs.missing_cells.of_marks.Given as goal

abbrev pub invariant-loop-cell : goal.invariant-loop-cell
invariant-loop-cell l = (l.missing ++ rest_from l.cell l.marks ≡ missing_cells l.marks) × (length l.missing ≤ l.most)
