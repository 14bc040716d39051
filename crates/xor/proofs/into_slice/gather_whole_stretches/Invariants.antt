-- `gather_whole_stretches`: stretch after stretch of 4,096 bytes.
use mathlib.Core.Path.{◌≡◌}
use Prim.Native.Nat.{◌-◌, ◌%◌, ◌≤◌}
use lib.ListN.{length}
use Rattle.xor.proofs.BlockLaws.{Gathered}
use Rattle.xor.proofs.into_slice.gather_whole_stretches.Given as goal

-- the first b bytes are gathered, and a number of stretches is left
abbrev pub invariant-loop-b : goal.invariant-loop-b
invariant-loop-b l = (l.b ≤ length l.fn.dst) × ((length l.fn.dst - l.b) % 4096 ≡ 0) × Gathered (length l.fn.dst) l.b l.t l.at l.dst

abbrev pub decreases-loop-b : goal.decreases-loop-b
decreases-loop-b l = length l.fn.dst - l.b
