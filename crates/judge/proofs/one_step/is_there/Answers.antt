-- `is_there`: a cell of another disk or of the row itself is no obstacle; any other is there exactly
-- if its row is rebuilt.
use Rattle.std.proofs.Common.{sym, ◌∙◌}
use borrow.Author.Tests.{eqb-true, eqb-false}
use Rattle.parity_sets.proofs.NumberLaws.{row_of}
use Rattle.judge.proofs.StepRefusals.{elsewhere, itself, another}
use Rattle.judge.proofs.one_step.is_there.Goals as goal

pub returns-then-not-is_on_disk : goal.returns-then-not-is_on_disk
returns-then-not-is_on_disk c = sym (elsewhere _ _ _ _ _ (eqb-false _ _ (sym c.is_on_disk.ensures ∙ c.if-not-is_on_disk.true)))

pub returns-then-other-row : goal.returns-then-other-row
returns-then-other-row c =
    let a = c.args in
    let e = eqb-true _ _ (sym c.is_on_disk.ensures ∙ c.if-not-is_on_disk.false) in
    sym (itself a.array.width a.lost a.row a.cell _ a.rebuilt e (row_of a.array.width a.lost a.cell e).1 c.if-other-row.true)

pub returns-else-other-row : goal.returns-else-other-row
returns-else-other-row c =
    let a = c.args in
    let e = eqb-true _ _ (sym c.is_on_disk.ensures ∙ c.if-not-is_on_disk.false) in
    sym (another a.array.width a.lost a.row a.cell _ a.rebuilt e (row_of a.array.width a.lost a.cell e).1 c.if-other-row.false)
