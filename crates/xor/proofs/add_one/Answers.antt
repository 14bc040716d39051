-- `add_one`: each turn stores the next byte of the XOR of the destination and the part.
use mathlib.Core.Path.{refl}
use Prim.Native.Nat.{◌+◌, ◌<◌}
use native.Mathlib.Omega.{arith}
use lib.ListN.{length}
use Rattle.xor.proofs.StoreLaws.{stored_none, stored_more, stored_whole, part_long, xor_long, of_whole, of_part, of_xor}
use Rattle.xor.proofs.add_one.Goals as goal

pub loop-i-init : goal.loop-i-init
loop-i-init c =
    let o = c.args in
    let n = length o.dst.now in
    (stored_none o.dst.now _ 0 n (omega arith) (xor_long (record { size = refl }) (part_long o.t.now o.a n c.requires)), c.type_inv.dst)

pub loop-i-preserved : goal.loop-i-preserved
loop-i-preserved c =
    let o = c.args in
    let st = c.loop-i.invariant in
    let i = c.loop-i.i in
    let n = length o.dst.now in
    let h : i < n = omega arith in
    (stored_more i (omega arith) st.0 (of_xor (of_whole st.0 h refl (st.1 i)) (of_part o.t.now o.a n i h c.requires (c.type_inv.t (o.a + i)))), st.1)

pub returns : goal.returns
returns c = stored_whole c.loop-i.invariant.0 (omega arith) refl
