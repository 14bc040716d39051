-- `put_diagonals`: the steps so far, and those of the rows still to come, are all.
use Rattle.std.proofs.Common.{◌≡◌, ℕ, List, ◌++◌, ◌∷◌, [], ◌<◌, length, sym, ap, ◌∙◌, arith}
use borrow.Author.Tests.{eqb-true, eqb-false}
use Rattle.liberation.specs.Plans.{Step, step, diagonal_of}
use Rattle.refusals.specs.declared.array.Array.{Array}
use Rattle.planner.specs.RouteRecords.{rows_in}
use Rattle.planner.specs.StepLists.{steps_put}
use Rattle.planner.specs.declared.routes.Routes.{Routes}
use Rattle.planner.proofs.RouteLaws.{long}
use Rattle.planner.proofs.StepRecord.{push, room, over, steps_many, diagonal_some, diagonal_none, diagonal_last}
use Rattle.planner.proofs.records.put_diagonals.Goals as goal
use Rattle.planner.proofs.records.put_diagonals.Goals.{then-takes_diagonal, else-takes_diagonal}

-- a route for each row
size : (r : Routes) → length (rows_in r) ≡ r.array.width
size r = long r.array.width r.routes r.array.widest r.long

-- the row is one of them
below : (r : Routes) (a : Array) (row : ℕ) → a ≡ r.array → row < a.width → row < length (rows_in r)
below r a row e h = omega (arith, size r, ap (λ (x : Array). x.width) e, h)

pub push-requires : goal.push-requires
push-requires c =
    let l = c.loop-row in
    let r = c.args.routes.now in
    let p = r.array.width in
    let f = c.args.disk in
    let h = below r c.array-array.result l.row c.array-array.ensures c.loop-row-test.true in
    let s = diagonal_some p f l.row (rows_in r) h (eqb-true _ _ (sym c.takes_diagonal.ensures ∙ c.if-takes_diagonal.true)) in
    let b : l.row < 31 = omega (arith, h, size r, r.array.widest) in
    (room (steps_put l.list) _ s l.invariant (omega (arith, steps_many p f (rows_in r), size r, r.array.widest)), b, omega (arith, c.diagonal_of-number.ensures.1, c.array-array.result.widest))

pub loop-row-preserved : goal.loop-row-preserved
loop-row-preserved c =
    let l = c.loop-row in
    let r = c.args.routes.now in
    let p = r.array.width in
    let f = c.args.disk in
    let h = below r c.array-array.result l.row c.array-array.ensures c.loop-row-test.true in
    elim c.if-takes_diagonal.branch [
      | then-takes_diagonal w ↦ rw w.list-is (push (steps_put l.list) _ (diagonal_some p f l.row (rows_in r) h (eqb-true _ _ (sym c.takes_diagonal.ensures ∙ w.if-takes_diagonal.true))) l.invariant (w.push.ensures ∙ ap (λ (n : ℕ). steps_put l.list ++ (step l.row 1 n ∷ [])) (w.diagonal_of-number.ensures.0 ∙ ap (λ (x : Array). diagonal_of x.width f l.row) c.array-array.ensures)))
      | else-takes_diagonal w ↦ rw w.list-is (ap (λ (ss : List Step). steps_put l.list ++ ss) (sym (diagonal_none p f l.row (rows_in r) h (eqb-false _ _ (sym c.takes_diagonal.ensures ∙ w.if-takes_diagonal.false)))) ∙ l.invariant)
    ]

pub returns : goal.returns
returns c =
    let l = c.loop-row in
    let r = c.args.routes.now in
    let p = r.array.width in
    let f = c.args.disk in
    over (steps_put l.list) (diagonal_last p f l.row (rows_in r) (omega (arith, size r, c.loop-row-test.false, ap (λ (x : Array). x.width) c.array-array.ensures))) l.invariant
