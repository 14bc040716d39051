-- `gather_stretches`: the whole stretches, then what is left.
use mathlib.Core.Path.{refl}
use Prim.Native.Nat.{◌-◌, ◌%◌}
use native.Mathlib.Omega.{arith}
use lib.ListN.{length}
use Rattle.xor.proofs.BlockLaws.{tail_is, gathered_none, gathered_more, gathered_all}
use Rattle.xor.proofs.into_slice.gather_stretches.Goals as goal

pub returns : goal.returns
returns c =
    let o = c.args in
    let f = c.requires.1.inside in
    let n = length o.dst.now in
    let whole = n - n % 4096 in
    let one = gathered_more whole whole o.t.now c.gather_whole_stretches.new.dst (gathered_none o.t.now o.at.now o.dst.now) f (omega arith) (omega arith) refl c.gather_whole_stretches.ensures in
    gathered_all (gathered_more _ n _ c.gather.new.dst one f (omega (arith, one.long)) (omega arith) (tail_is whole o.t.now) c.gather.ensures) f (omega arith)
