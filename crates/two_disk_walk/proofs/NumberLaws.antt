-- The row of an extra cell.
use mathlib.Core.Path.{◌≡◌}
use Prim.Native.Nat.{ℕ, ◌%◌, ◌≤◌, ◌<◌}
use native.Mathlib.Omega.{arith}
use Rattle.liberation.specs.Plans.{second_row, extra_row_on}
use Rattle.liberation.proofs.LostLaws.{second_range}

-- the extra cell's row is one of the rows, and can be counted with
pub extra_below : (p c : ℕ) → p % 2 ≡ 1 → 1 ≤ c → c < p → (1 ≤ second_row p c) × (extra_row_on p c < p)
extra_below p c odd low high = let r = second_range p c odd low high in (r.0, omega arith)
