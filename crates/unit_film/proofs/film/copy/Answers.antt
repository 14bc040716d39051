-- `copy`: each turn stores the next byte of the source.
use mathlib.Core.Path.{refl}
use Prim.Native.Nat.{◌<◌}
use native.Mathlib.Omega.{arith}
use lib.ListN.{length}
use Rattle.xor.proofs.StoreLaws.{stored_none, stored_more, stored_whole}
use Rattle.unit_film.proofs.film.copy.Goals as goal

pub loop-i-init : goal.loop-i-init
loop-i-init c = stored_none c.args.dst.now c.args.src.now 0 (length c.args.dst.now) (omega arith) (record { size = c.requires })

pub loop-i-preserved : goal.loop-i-preserved
loop-i-preserved c =
    let i = c.loop-i.i in
    let h : i < length c.args.dst.now = omega arith in
    stored_more i (omega arith) c.loop-i.invariant (record { within = h; new_long = record { size = c.requires }; is = refl; byte = omega (arith, c.type_inv.src i) })

pub returns : goal.returns
returns c = stored_whole c.loop-i.invariant (omega arith) refl
