-- `pivot_row`: the search goes on from the row that is looked at.
use mathlib.Core.Path.{◌≡◌}
use Prim.Native.Nat.{◌-◌}
use lib.ListN.{length}
use Rattle.mathematics.specs.Sums.{first_from}
use Rattle.mathematics.specs.BitRows.Rows.{has, pivot}
use Rattle.rebuild_cells.specs.RowLists.{rows_of}
use Rattle.rebuild_cells.proofs.reduction.pivot_row.Given as goal

abbrev pub invariant-loop-j : goal.invariant-loop-j
invariant-loop-j l = first_from (length l.rows - l.j) l.j (λ i. has (rows_of l.rows) i l.b) ≡ pivot (length l.rows) l.b (rows_of l.rows)
