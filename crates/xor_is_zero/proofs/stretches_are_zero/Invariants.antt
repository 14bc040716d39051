-- `stretches_are_zero`: stretch after stretch, in one buffer, whose bytes play no part. A stretch that
-- is not zero settles the answer.
use mathlib.Core.Path.{◌≡◌}
use Prim.Native.Nat.{◌-◌, ◌%◌, ◌≤◌}
use lib.ListN.{replicate}
use Rattle.mathematics.specs.Lists.{same}
use Rattle.xor.specs.Parts.{xor_offsets}
use Rattle.xor.proofs.ZeroLaws.{zero_from}
use Rattle.xor_is_zero.proofs.stretches_are_zero.Given as goal

-- a number of stretches is left, and the answer is that of what is left
abbrev pub invariant-loop-b : goal.invariant-loop-b
invariant-loop-b l = (l.b ≤ l.n) × ((l.n - l.b) % 2048 ≡ 0) × (same (xor_offsets l.n l.t l.at) (replicate l.n 0) ≡ zero_from l.b l.n l.t l.at)

abbrev pub decreases-loop-b : goal.decreases-loop-b
decreases-loop-b l = l.n - l.b
