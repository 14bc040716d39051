-- `our_routes`: what the rows still to come make of the routes so far is all.
use Rattle.std.proofs.Common.{◌≡◌, ◌-◌}
use Rattle.liberation.specs.Plans.{routes_from, routes}
use Rattle.planner.specs.RouteRecords.{rows_in}
use Rattle.planner.proofs.our_routes.our_routes.Given as goal

abbrev pub invariant-loop-row : goal.invariant-loop-row
invariant-loop-row l = record {
  array : l.routes.array ≡ l.fn.array;
  rest : routes_from (l.fn.array.width - l.row) l.fn.array.width l.disk l.row (rows_in l.routes) ≡ routes l.fn.array.width l.disk;
}
