-- `tested_column`: a data disk or P by the row sets, which give the rebuilt column since the disk
-- fits; Q by our plan.
use Rattle.xor.proofs.SourceLaws.{bytes_all}
use Rattle.rebuild_tested.proofs.TestedRows.{rows_tested}
use Rattle.rebuild_tested.proofs.columns.tested_column.Goals as goal

pub returns-then-lost : goal.returns-then-lost
returns-then-lost c =
    let a = c.args in
    rows_tested a.lost.geometry a.lost.disk a.stripe.now c.if-lost.true c.requires.long.0 c.requires.tested (bytes_all a.stripe.now c.type_inv.stripe) c.column_by_rows.new.column c.column_by_rows.ensures
