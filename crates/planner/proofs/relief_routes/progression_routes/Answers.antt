-- `progression_routes`: the walk goes on by the same step at each turn.
use Rattle.std.proofs.Common.{rules, ◌∙◌}
use Rattle.planner.proofs.ProgressionSteps.{same, progression_walked}
use Rattle.planner.proofs.relief_routes.progression_routes.Goals as goal

pub returns : goal.returns
returns c =
    let a = c.args in
    let w = c.walk_routes.ensures in
    (w.array, w.rows (same a.step) (λ n x h k. search rules) ∙ progression_walked a.array.width a.disk c.start_row.result a.step c.start_row.ensures.0 c.start_row.ensures.1)
