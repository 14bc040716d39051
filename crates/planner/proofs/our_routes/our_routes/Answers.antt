-- `our_routes`: what the rows still to come make of the routes so far is all.
use Rattle.std.proofs.Common.{◌-◌, ◌/◌, ◌<◌, ap, sym, ◌∙◌, arith}
use Rattle.liberation.specs.Plans.{decided, diagonals}
use Rattle.refusals.specs.declared.array.Array.{Array}
use Rattle.planner.specs.RouteRecords.{rows_in}
use Rattle.planner.proofs.RouteLaws.{begins, stops, ends, turn_decides, turn_skips}
use Rattle.planner.proofs.our_routes.our_routes.Goals as goal
use Rattle.planner.proofs.our_routes.our_routes.Goals.{then-is_undecided, else-is_undecided}

pub loop-row-init : goal.loop-row-init
loop-row-init c = record { array = c.first_routes-routes.ensures.0; rest = begins _ _ _ c.first_routes-routes.ensures.1 }

pub loop-row-preserved : goal.loop-row-preserved
loop-row-preserved c =
    let a = c.args in
    let l = c.loop-row in
    let p = a.array.width in
    let rs = rows_in l.routes in
    let few : diagonals rs < (p - 1) / 2 = omega (arith, c.if-half-diagonals.false, c.diagonals.ensures) in
    elim c.if-is_undecided.branch [
      | then-is_undecided w ↦ rw w.routes-is (record {
        array = w.decide.ensures.array ∙ l.invariant.array;
        rest = turn_decides p a.disk l.row rs _ c.loop-row-test.true few (sym c.is_undecided.ensures ∙ w.if-is_undecided.true) (w.decide.ensures.rows ∙ ap (λ (x : Array). decided x.width a.disk l.row rs) l.invariant.array) l.invariant.rest;
      })
      | else-is_undecided w ↦ rw w.routes-is (record {
        array = l.invariant.array;
        rest = turn_skips p a.disk l.row rs c.loop-row-test.true few (sym c.is_undecided.ensures ∙ w.if-is_undecided.false) l.invariant.rest;
      })
    ]

pub returns-after-loop-row : goal.returns-after-loop-row
returns-after-loop-row c = let l = c.loop-row in (l.invariant.array, ends c.args.array.width c.args.disk l.row _ c.loop-row-test.false l.invariant.rest)

pub returns-then-half-diagonals : goal.returns-then-half-diagonals
returns-then-half-diagonals c = let l = c.loop-row in (l.invariant.array, stops c.args.array.width c.args.disk l.row _ (omega (arith, c.if-half-diagonals.true, c.diagonals.ensures)) l.invariant.rest)
