-- `reduce`: each turn does an unknown. The invariant: the unknowns still to come, reduced from the
-- rows as they are, give what all give from the rows as they were.
use mathlib.Core.Path.{◌≡◌}
use Prim.Native.Nat.{◌-◌, ◌≤◌}
use lib.ListN.{length}
use Rattle.mathematics.specs.BitRows.Rows.{reduced_from}
use Rattle.rebuild_cells.specs.RowLists.{rows_of}
use Rattle.rebuild_cells.proofs.reduction.reduce.Given as goal

abbrev pub invariant-loop-b : goal.invariant-loop-b
invariant-loop-b l = (l.b ≤ length l.initial.rows) × (reduced_from (l.unknowns - l.b) (length l.initial.rows) l.b (rows_of l.rows) ≡ reduced_from l.unknowns (length l.initial.rows) 0 (rows_of l.initial.rows))
