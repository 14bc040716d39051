-- `add_one`: each turn stores the next byte of the XOR of the destination and the part.
use Prim.Native.Nat.{ℕ}
use mir.Syntax.{w8}
use mir.Val.{Fits}
use lib.ListN.{length, get_or}
use Rattle.mathematics.specs.Xor.{xor_l}
use Rattle.xor.specs.Parts.{part}
use Rattle.xor.proofs.StoreLaws.{Stored}
use Rattle.xor.proofs.add_one.Given as goal

-- after i turns the destination holds the first i bytes of the XOR
abbrev pub invariant-loop-i : goal.invariant-loop-i
invariant-loop-i l = Stored l.initial.dst 0 (length l.initial.dst) (xor_l l.initial.dst (part (length l.initial.dst) l.a l.t)) l.dst l.i × ((j : ℕ) → Fits w8 (get_or l.initial.dst j 0))
