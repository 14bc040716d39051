-- `put_rows`: the steps so far, and those of the rows still to come, are all.
use Rattle.std.proofs.Common.{◌≡◌, ℕ, List, ◌++◌, ◌<◌, length, sym, ap, ◌∙◌, arith}
use borrow.Author.Tests.{eqb-true, eqb-false}
use Rattle.liberation.specs.Plans.{Step}
use Rattle.refusals.specs.declared.array.Array.{Array}
use Rattle.planner.specs.RouteRecords.{rows_in}
use Rattle.planner.specs.StepLists.{steps_put}
use Rattle.planner.specs.declared.routes.Routes.{Routes}
use Rattle.planner.proofs.RouteLaws.{long}
use Rattle.planner.proofs.StepRecord.{push, room, over, rows_many, row_some, row_none, row_last}
use Rattle.planner.proofs.records.put_rows.Goals as goal
use Rattle.planner.proofs.records.put_rows.Goals.{then-not-takes_diagonal, else-not-takes_diagonal}

-- a route for each row
size : (r : Routes) → length (rows_in r) ≡ r.array.width
size r = long r.array.width r.routes r.array.widest r.long

-- the row is one of them
below : (r : Routes) (a : Array) (row : ℕ) → a ≡ r.array → row < a.width → row < length (rows_in r)
below r a row e h = omega (arith, size r, ap (λ (x : Array). x.width) e, h)

pub push-requires : goal.push-requires
push-requires c =
    let l = c.loop-row in
    let r = c.args.routes.now in
    let h = below r c.array-array.result l.row c.array-array.ensures c.loop-row-test.true in
    let s = row_some l.row (rows_in r) h (eqb-false _ _ (sym c.takes_diagonal.ensures ∙ c.if-not-takes_diagonal.true)) in
    let b : l.row < 31 = omega (arith, h, size r, r.array.widest) in
    (room (steps_put l.list) _ s l.invariant (omega (arith, rows_many (rows_in r), size r, r.array.widest)), b, b)

pub loop-row-preserved : goal.loop-row-preserved
loop-row-preserved c =
    let l = c.loop-row in
    let r = c.args.routes.now in
    let h = below r c.array-array.result l.row c.array-array.ensures c.loop-row-test.true in
    elim c.if-not-takes_diagonal.branch [
      | then-not-takes_diagonal w ↦ rw w.list-is (push (steps_put l.list) _ (row_some l.row (rows_in r) h (eqb-false _ _ (sym c.takes_diagonal.ensures ∙ w.if-not-takes_diagonal.true))) l.invariant w.push.ensures)
      | else-not-takes_diagonal w ↦ rw w.list-is (ap (λ (ss : List Step). steps_put l.list ++ ss) (sym (row_none l.row (rows_in r) h (eqb-true _ _ (sym c.takes_diagonal.ensures ∙ w.if-not-takes_diagonal.false)))) ∙ l.invariant)
    ]

pub returns : goal.returns
returns c =
    let l = c.loop-row in
    let r = c.args.routes.now in
    over (steps_put l.list) (row_last l.row (rows_in r) (omega (arith, size r, c.loop-row-test.false, ap (λ (x : Array). x.width) c.array-array.ensures))) l.invariant
