-- `mend_all`: the words so far are the sums of the rows.
use mathlib.Core.Path.{◌≡◌}
use Prim.Native.Nat.{ℕ, ◌<◌}
use lib.ListN.{length, get_or}
use Rattle.rebuild_cells.specs.RowLists.{sums_of}
use Rattle.rebuild_cells.proofs.nearest.mend_all.Given as goal

abbrev pub invariant-loop-b : goal.invariant-loop-b
invariant-loop-b l = (length l.near ≡ 62) × ((x : ℕ) → x < l.b → get_or l.near x 0 ≡ get_or (sums_of l.rows) x 0)
