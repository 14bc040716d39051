-- `add_all`: four sources a turn, then one a turn.
use mathlib.Core.Path.{◌≡◌}
use Prim.Native.Nat.{◌-◌, ◌≤◌}
use lib.ListN.{length, take}
use Rattle.mathematics.specs.Xor.{xor_l}
use Rattle.xor.specs.Parts.{xor_offsets}
use Rattle.xor.proofs.add_all.Given as goal

-- the destination has the sources before k
abbrev pub invariant-loop-k : goal.invariant-loop-k
invariant-loop-k l = (l.k ≤ length l.at) × (l.dst ≡ xor_l l.fn.dst (xor_offsets (length l.fn.dst) l.t (take l.k l.at)))

abbrev pub decreases-loop-k : goal.decreases-loop-k
decreases-loop-k l = length l.at - l.k

-- and those before i
abbrev pub invariant-loop-i : goal.invariant-loop-i
invariant-loop-i l = l.dst ≡ xor_l l.fn.dst (xor_offsets (length l.fn.dst) l.t (take l.i l.at))
