-- `gather_blocks`: block after block of N bytes.
use mathlib.Core.Path.{◌≡◌}
use Prim.Native.Nat.{◌-◌, ◌%◌, ◌≤◌}
use lib.ListN.{length}
use Rattle.xor.proofs.BlockLaws.{Gathered}
use Rattle.xor.proofs.into_slice.gather_blocks.Given as goal

-- the first b bytes are gathered, and a number of blocks is left
abbrev pub invariant-loop-b : goal.invariant-loop-b
invariant-loop-b g l = (l.b ≤ length l.fn.dst) × ((length l.fn.dst - l.b) % g.row.N ≡ 0) × Gathered (length l.fn.dst) l.b l.t l.at l.dst

abbrev pub decreases-loop-b : goal.decreases-loop-b
decreases-loop-b g l = length l.fn.dst - l.b
