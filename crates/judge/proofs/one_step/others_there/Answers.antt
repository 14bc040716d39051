-- `others_there`: every cell of the set is there.
use Rattle.std.proofs.Common.{rules, tests, ◌∙◌}
use Rattle.std.proofs.lemmas.Iterator.Consumers.{YieldsList-from_first}
use Rattle.std.proofs.lemmas.Iterator.Search.{all_from_yields_List}
use Rattle.parity_sets.specs.CellsLeft.{cells_left}
use Rattle.parity_sets.specs.ParitySets.{cells_of}
use Rattle.judge.specs.Steps.{is_there}
use Rattle.judge.proofs.StepRefusals.{there_each}
use Rattle.judge.proofs.one_step.others_there.Goals as goal

pub returns : goal.returns
returns c =
    λ ds d.
    let a = c.args in
    let xs = cells_of a.array.width a.array.disks a.step.set in
    all_from_yields_List (is_there a.array.width a.lost a.step.row a.rebuilt) c.all.new.self _ _ c.all.ensures.ran (YieldsList-from_first (λ x. x) cells_left xs c.cells.ensures) (λ x b q k. search (rules, tests))
    ∙ there_each a.array.width a.lost a.step.row a.rebuilt ds xs a.array.some a.array.widest d
