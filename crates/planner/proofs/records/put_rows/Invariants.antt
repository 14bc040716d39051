-- `put_rows`: the steps so far, and those of the rows still to come, are all.
use Rattle.std.proofs.Common.{◌≡◌, ◌++◌}
use lib.ListN.{drop}
use Rattle.liberation.specs.Plans.{row_steps}
use Rattle.planner.specs.RouteRecords.{rows_in}
use Rattle.planner.specs.StepLists.{steps_put}
use Rattle.planner.proofs.records.put_rows.Given as goal

abbrev pub invariant-loop-row : goal.invariant-loop-row
invariant-loop-row l = steps_put l.list ++ row_steps l.row (drop l.row (rows_in l.routes)) ≡ row_steps 0 (rows_in l.routes)
