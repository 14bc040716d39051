-- `put_diagonals`: the steps so far, and those of the rows still to come, are all.
use Rattle.std.proofs.Common.{◌≡◌, ◌++◌}
use lib.ListN.{drop}
use Rattle.liberation.specs.Plans.{row_steps, diagonal_steps}
use Rattle.planner.specs.RouteRecords.{rows_in}
use Rattle.planner.specs.StepLists.{steps_put}
use Rattle.planner.proofs.records.put_diagonals.Given as goal

abbrev pub invariant-loop-row : goal.invariant-loop-row
invariant-loop-row l =
    let rs = rows_in l.routes in
    let p = l.routes.array.width in
    steps_put l.list ++ diagonal_steps p l.disk l.row (drop l.row rs) ≡ row_steps 0 rs ++ diagonal_steps p l.disk 0 rs
