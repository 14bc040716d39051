-- `mark_cell`: a cell on the lost disk is none of the surviving ones; any other is marked, and was
-- fresh where its mark was 0.
use mathlib.Core.Path.{◌≡◌, refl, sym, ◌∙◌}
use mathlib.Core.Bool.{Bool, true, false}
use mir.Val.{bool_byte}
use borrow.Author.Tests.{eqb-true, eqb-false}
use Rattle.mathematics.specs.Choice.{when}
use Rattle.parity_sets.proofs.MarkLaws.{lost_one, surviving_one, marked_none, marked_one}
use Rattle.parity_sets.proofs.marks.mark_cell.Goals as goal

pub returns-then-is_on_disk : goal.returns-then-is_on_disk
returns-then-is_on_disk c = marked_none _ _ (lost_one _ _ _ (eqb-true _ _ (sym c.is_on_disk.ensures ∙ c.if-is_on_disk.true)))

-- a flag as a number
counted : (b : Bool) → when b 1 ≡ bool_byte b
counted true = refl
counted false = refl

pub returns : goal.returns
returns c =
    let a = c.args in
    let x = surviving_one a.array.width a.lost a.cell (eqb-false _ _ (sym c.is_on_disk.ensures ∙ c.if-is_on_disk.false)) in
    marked_one _ _ a.cell c.from.result x (counted _ ∙ sym c.from.ensures)
