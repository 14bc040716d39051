-- `holds_row`: one of the set's cells is the row's lost cell.
use Rattle.std.proofs.Common.{rules, tests, sym, ◌∙◌}
use lib.Dec.{eqb}
use Rattle.std.proofs.lemmas.Iterator.Consumers.{YieldsList-from_first}
use Rattle.std.proofs.lemmas.Iterator.Search.{any_from_yields_List}
use Rattle.liberation.specs.Sets.{place}
use Rattle.liberation.proofs.SetLaws.{in_lost}
use Rattle.parity_sets.specs.CellsLeft.{cells_left}
use Rattle.parity_sets.specs.ParitySets.{cells_of}
use Rattle.judge.proofs.StepRefusals.{is_in_any}
use Rattle.judge.proofs.one_step.holds_row.Goals as goal

pub returns : goal.returns
returns c =
    let a = c.args in
    let xs = cells_of a.array.width a.array.disks a.step.set in
    let w = place a.array.width a.step.row a.lost in
    any_from_yields_List (λ x. eqb x w) c.any.new.self _ _ c.any.ensures.ran (YieldsList-from_first (λ x. x) cells_left xs c.cells.ensures) (λ x b q k. search (rules, tests))
    ∙ is_in_any w xs
    ∙ sym (in_lost a.array.width a.lost a.step.row xs c.requires.1.row)
