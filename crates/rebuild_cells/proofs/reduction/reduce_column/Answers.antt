-- `reduce_column`: the rows are exchanged, and then cleared.
use mathlib.Core.Path.{ap, ◌∙◌}
use native.Mathlib.Omega.{arith}
use mathlib.Core.List.{List}
use lib.ListN.{length}
use Rattle.rebuild_cells.specs.declared.reduction.Row.{Row}
use Rattle.rebuild_cells.specs.RowLists.{rows_of}
use Rattle.rebuild_cells.proofs.RowListLaws.{rows_swapped}
use Rattle.rebuild_cells.proofs.RowLoops.{column_is}
use Rattle.rebuild_cells.proofs.reduction.reduce_column.Goals as goal

pub returns : goal.returns
returns c =
    let a = c.args in
    let rs = a.rows.now in
    column_is (length rs) (length c.swap.new.self) a.b a.j (rows_of rs) (rows_of c.swap.new.self) (rows_of c.clear_rows.new.rows) c.swap.ensures.len
    (ap (λ (l : List Row). rows_of l) c.swap.ensures.after ∙ rows_swapped rs a.b a.j (omega arith) (omega arith)) c.clear_rows.ensures
