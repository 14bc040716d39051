-- `clear_rows`: each turn clears a row.
use mathlib.Core.Path.{◌∙◌}
use native.Mathlib.Omega.{arith}
use lib.ListN.{length}
use Rattle.rebuild_cells.specs.RowLists.{rows_of}
use Rattle.rebuild_cells.proofs.RowLoops.{clear_turn, clear_end}
use Rattle.rebuild_cells.proofs.reduction.clear_rows.Goals as goal

pub loop-i-preserved : goal.loop-i-preserved
loop-i-preserved c =
    let l = c.loop-i in
    clear_turn (length c.args.rows.now) c.args.b l.i (rows_of l.rows) (rows_of c.clear_row.new.rows) (omega arith) c.clear_row.ensures ∙ l.invariant

pub returns : goal.returns
returns c =
    let l = c.loop-i in
    clear_end (length c.args.rows.now) c.args.b l.i (rows_of l.rows) (omega arith) ∙ l.invariant
