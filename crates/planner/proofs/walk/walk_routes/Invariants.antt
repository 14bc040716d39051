-- `walk_routes`: each turn goes on to the next row of the walk, which takes a diagonal.
use Rattle.std.proofs.Common.{◌≡◌, ◌-◌, ◌/◌, ◌<◌, ℕ}
use Rattle.planner.specs.RouteRecords.{rows_in}
use Rattle.planner.proofs.WalkLaws.{IsAfter}
use Rattle.planner.proofs.walk.walk_routes.Given as goal

abbrev pub invariant-loop-taken : goal.invariant-loop-taken
invariant-loop-taken g l = record {
  array : l.routes.array ≡ l.array;
  row : l.row < l.array.width;
  walk : (h : ℕ → ℕ) → ((n x : ℕ) → n < (l.array.width - 1) / 2 → g.F.Fn.post l.step (n, tt) x → x ≡ h n) → IsAfter l.array.width l.fn.start h l.taken l.row (rows_in l.routes);
}
