-- `fill_rows`: each turn puts in the row of a set. The invariant: the rows put in, with those still
-- to come, are all.
use Rattle.rebuild_cells.specs.RowLists.{words_of, sums_of}
use Rattle.rebuild_cells.proofs.WordLoops.{Filling}
use Rattle.rebuild_cells.proofs.equations.fill_rows.Given as goal

abbrev pub invariant-loop-number : goal.invariant-loop-number
invariant-loop-number l = Filling l.array.width l.array.disks l.cells (words_of l.rows) (sums_of l.rows) l.number
