-- `walk_routes`: each turn goes on to the next row of the walk, which takes a diagonal.
use Rattle.std.proofs.Common.{◌≡◌, ℕ, ◌+◌, ◌%◌, ap, ◌∙◌, arith}
use native.Mathlib.Nat.{mod-lt}
use Rattle.planner.proofs.WalkLaws.{walk_starts, walk_turns}
use Rattle.planner.proofs.walk.walk_routes.Goals as goal

pub loop-taken-init : goal.loop-taken-init
loop-taken-init g c = record {
  array = c.all-routes.ensures.0;
  row = c.requires.start;
  walk = λ h k. walk_starts c.args.array.width c.args.start h _ c.all-routes.ensures.1;
}

pub loop-taken-preserved : goal.loop-taken-preserved
loop-taken-preserved g c =
    let a = c.args in
    let l = c.loop-taken in
    let p = a.array.width in
    let t = c.take_diagonal.ensures in
    let e : c.row_on-row.result ≡ (l.row + c.step.result) % p = c.row_on-row.ensures (c.requires.short l.taken c.step.result c.loop-taken-test.true c.step.ensures) in
    record {
      array = t.array ∙ l.invariant.array;
      row = omega (arith, e, mod-lt (l.row + c.step.result) a.array.some);
      walk = λ h k. walk_turns p a.start h l.taken l.row c.row_on-row.result _ _ (e ∙ ap (λ (n : ℕ). (l.row + n) % p) (k l.taken c.step.result c.loop-taken-test.true c.step.ensures)) t.rows (l.invariant.walk h k);
    }
