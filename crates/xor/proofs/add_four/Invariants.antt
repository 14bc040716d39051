-- `add_four`: each turn stores the next byte of the XOR of the destination and the four parts.
use Prim.Native.Nat.{ℕ}
use mir.Syntax.{w8}
use mir.Val.{Fits}
use lib.ListN.{length, get_or}
use Rattle.mathematics.specs.Xor.{xor_l}
use Rattle.xor.specs.Parts.{part}
use Rattle.xor.proofs.StoreLaws.{Stored}
use Rattle.xor.proofs.add_four.Given as goal

-- after i turns the destination holds the first i bytes of the XOR
abbrev pub invariant-loop-i : goal.invariant-loop-i
invariant-loop-i l =
    let x = l.initial.dst in
    let n = length x in
    Stored x 0 n (xor_l (xor_l (xor_l (xor_l x (part n l.a l.t)) (part n l.b l.t)) (part n l.c l.t)) (part n l.e l.t)) l.dst l.i × ((j : ℕ) → Fits w8 (get_or x j 0))
