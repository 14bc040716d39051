-- `add_lists`: each turn adds the next sources by a list that has the destination in front.
use mathlib.Core.Path.{◌≡◌}
use Prim.Native.Nat.{◌-◌, ◌≤◌, ◌<◌}
use lib.ListN.{length, take, drop}
use Rattle.mathematics.specs.Xor.{xor_l}
use Rattle.xor.specs.Parts.{part, with_part, xor_offsets}
use Rattle.xor_in_place.proofs.lists.add_lists.Given as goal

-- the sources before i are added, and the list is as it was from i on
abbrev pub invariant-loop-i : goal.invariant-loop-i
invariant-loop-i l = (l.i ≤ length l.fn.at) × (l.i < length l.fn.at → 0 < l.i) × (l.from ≤ l.i) × (length l.at ≡ length l.fn.at) × (drop l.i l.at ≡ drop l.i l.fn.at) × (l.t ≡ with_part l.n l.d (xor_l (part l.n l.d l.fn.t) (xor_offsets l.n l.fn.t (take (l.i - l.from) (drop l.from l.fn.at)))) l.fn.t)

abbrev pub decreases-loop-i : goal.decreases-loop-i
decreases-loop-i l = length l.fn.at - l.i
