-- `counted`: the plan by the routes, and its reads counted.
use Rattle.std.proofs.Common.{◌≡◌, ap, subst, ◌∙◌, arith, length}
use Rattle.refusals.proofs.WithinLimits.{in_array}
use Rattle.refusals.specs.declared.array.Array.{Array}
use Rattle.liberation.specs.Judging.{accepted}
use Rattle.planner.specs.PlanSays.{Finished}
use Rattle.planner.specs.RouteRecords.{rows_in}
use Rattle.planner.specs.declared.routes.Routes.{Routes}
use Rattle.planner.proofs.RouteLaws.{long}
use Rattle.planner.proofs.FewestLaws.{routes_accepted, routes_held, routed_is}
use Rattle.planner.proofs.fewest.counted.Goals as goal

-- a route for each row
size : (r : Routes) → length (rows_in r) ≡ r.array.width
size r = long r.array.width r.routes r.array.widest r.long

pub finished-requires : goal.finished-requires
finished-requires c =
    let r = c.args.routes in
    let a = r.array in
    let f = c.args.lost in
    let rs = rows_in r in
    rw c.array.ensures (omega (arith, c.requires), ap (accepted a.width a.disks f) (routes_held a.width a.disks f rs c.by_routes.result.steps (in_array a) c.requires (size r) c.by_routes.ensures.steps) ∙ routes_accepted a.width a.disks f rs (in_array a) c.requires (size r))

pub returns : goal.returns
returns c =
    let r = c.args.routes in
    let a = r.array in
    let f = c.args.lost in
    routed_is a.width a.disks f (rows_in r) c.by_routes.result c.finished.result (in_array a) c.requires (size r) c.by_routes.ensures (subst (λ (x : Array). Finished x.width x.disks f c.by_routes.result c.finished.result) c.array.ensures c.finished.ensures)
