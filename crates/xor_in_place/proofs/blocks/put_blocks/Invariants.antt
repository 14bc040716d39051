-- `put_blocks`: block after block of N bytes.
use mathlib.Core.Path.{◌≡◌}
use Prim.Native.Nat.{◌-◌, ◌%◌, ◌≤◌}
use lib.ListN.{take}
use Rattle.xor.specs.Parts.{with_part, xor_offsets}
use Rattle.xor_in_place.proofs.blocks.put_blocks.Given as goal

-- the first b bytes from d on are new, and a number of blocks is left
abbrev pub invariant-loop-b : goal.invariant-loop-b
invariant-loop-b g l = (l.b ≤ l.n) × ((l.n - l.b) % g.row.N ≡ 0) × (l.t ≡ with_part l.b l.d (take l.b (xor_offsets l.n l.fn.t l.at)) l.fn.t)

abbrev pub decreases-loop-b : goal.decreases-loop-b
decreases-loop-b g l = l.n - l.b
