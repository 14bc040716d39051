-- `sum_is_zero`: block after block of 128 bytes. A block that is not zero settles the answer.
use mathlib.Core.Path.{◌≡◌}
use mathlib.Core.Bool.{true}
use Prim.Native.Nat.{◌-◌, ◌%◌, ◌≤◌}
use Rattle.xor.proofs.ZeroLaws.{none_to}
use Rattle.xor_is_zero.proofs.LastLaws.{sum_with}
use Rattle.xor_is_zero.proofs.one_stretch.sum_is_zero.Given as goal

-- the XOR is zero up to byte b
abbrev pub invariant-loop-b : goal.invariant-loop-b
invariant-loop-b l = (l.b ≤ 2048) × (l.b % 128 ≡ 0) × (none_to l.b (sum_with 2048 l.t l.at l.stretch) ≡ true)

abbrev pub decreases-loop-b : goal.decreases-loop-b
decreases-loop-b l = 2048 - l.b
