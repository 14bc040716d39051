-- `clear_rows`: each turn clears a row. The invariant: the rows still to come, cleared from the
-- rows as they are, give what all give from the rows as they were.
use mathlib.Core.Path.{◌≡◌}
use Prim.Native.Nat.{◌-◌}
use lib.ListN.{length}
use Rattle.mathematics.specs.BitRows.Rows.{cleared_from}
use Rattle.rebuild_cells.specs.RowLists.{rows_of}
use Rattle.rebuild_cells.proofs.reduction.clear_rows.Given as goal

abbrev pub invariant-loop-i : goal.invariant-loop-i
invariant-loop-i l = cleared_from (length l.initial.rows - l.i) l.b l.i (rows_of l.rows) ≡ cleared_from (length l.initial.rows) l.b 0 (rows_of l.initial.rows)
