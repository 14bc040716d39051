-- Whole disks mended by their rebuild, or not: the stripe then, and the first cell of a disk.
use mathlib.Core.Path.{◌≡◌}
use mathlib.Core.Bool.{true, true≢false}
use mathlib.Core.List.{List}
use Prim.Native.Nat.{ℕ, ◌+◌, ◌*◌, ◌/◌, ◌≤◌, ◌<◌}
use Rattle.rebuild_cells.specs.Listed.{WholeMended}
use Rattle.rebuild_cells.specs.Theory.Mending.{mendable, mended_cells}
use native.Mathlib.Nat.{div-mul-le_self}
use native.Mathlib.Omega.{arith}
use Rattle.liberation.specs.Limits.{InArray}
use Rattle.liberation.proofs.MarkLists.{cells_most}

pub whole_done : (p k s : ℕ) (cs t u : List ℕ) → mendable p k cs ≡ true → u ≡ mended_cells p k s cs t → WholeMended p k s cs t u true
whole_done p k s cs t u h e = record { mended = λ q. (h, e); stands = λ q. absurd (true≢false q) }

-- the first place of a cell's disk
pub disk_start : (p k x : ℕ) → InArray p k → x < p * (k + 2) → x / p * p ≤ 1023
disk_start p k x a h = omega (arith, div-mul-le_self x p, cells_most p k a.widest a.disks)
