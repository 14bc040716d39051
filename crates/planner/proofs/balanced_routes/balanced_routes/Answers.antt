-- `balanced_routes`: the squares above the start row.
use Rattle.std.proofs.Common.{◌∙◌}
use Rattle.planner.proofs.SquareSteps.{rows_squares}
use Rattle.planner.proofs.balanced_routes.balanced_routes.Goals as goal

pub returns : goal.returns
returns c =
    let a = c.args in
    let q = c.square_routes.ensures in
    (q.0, q.1 ∙ rows_squares a.array.width a.disk _ a.array.one_of_ten c.square_start.ensures.0)
