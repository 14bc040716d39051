-- `add_four`: each turn stores the next byte of the XOR of the destination and the four parts.
use mathlib.Core.Path.{refl, ◌∙◌}
use Prim.Native.Nat.{ℕ, ◌+◌, ◌<◌}
use native.Mathlib.Omega.{arith}
use lib.ListN.{length, get_or}
use Rattle.xor.proofs.StoreLaws.{stored_none, stored_more, stored_whole, part_long, xor_long, of_whole, of_part, of_xor}
use Rattle.xor.proofs.SourceLaws.{four_added}
use Rattle.xor.proofs.add_four.Goals as goal

pub loop-i-init : goal.loop-i-init
loop-i-init c =
    let o = c.args in
    let n = length o.dst.now in
    let one = λ (j : ℕ) (h : j < length o.at.now). part_long o.t.now (get_or o.at.now j 0) n (c.requires.1.inside j h) in
    (stored_none o.dst.now _ 0 n (omega arith) (xor_long (xor_long (xor_long (xor_long (record { size = refl }) (one 0 (omega arith))) (one 1 (omega arith))) (one 2 (omega arith))) (one 3 (omega arith))), c.type_inv.dst)

pub loop-i-preserved : goal.loop-i-preserved
loop-i-preserved c =
    let o = c.args in
    let st = c.loop-i.invariant in
    let i = c.loop-i.i in
    let n = length o.dst.now in
    let h : i < n = omega arith in
    let one = λ (j : ℕ) (k : j < length o.at.now). of_part o.t.now (get_or o.at.now j 0) n i h (c.requires.1.inside j k) (c.type_inv.t (get_or o.at.now j 0 + i)) in
    (stored_more i (omega arith) st.0 (of_xor (of_xor (of_xor (of_xor (of_whole st.0 h refl (st.1 i)) (one 0 (omega arith))) (one 1 (omega arith))) (one 2 (omega arith))) (one 3 (omega arith))), st.1)

pub returns : goal.returns
returns c =
    let o = c.args in
    stored_whole c.loop-i.invariant.0 (omega arith) refl ∙ four_added (length o.dst.now) o.t.now o.at.now o.dst.now c.requires.0 c.requires.1.inside
