-- `square_routes`: the walk goes on by 1, 3, 5 .. rows, from square to square.
use Rattle.std.proofs.Common.{rules, ◌-◌, ◌/◌, ◌∙◌}
use Rattle.planner.proofs.SquareSteps.{odd, squares_walked}
use Rattle.planner.proofs.balanced_routes.square_routes.Goals as goal

pub returns : goal.returns
returns c =
    let p = c.args.array.width in
    let w = c.walk_routes.ensures in
    (w.array, w.rows odd (λ n x h k. search rules) ∙ squares_walked p c.args.start ((p - 1) / 2) c.requires)
