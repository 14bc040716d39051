-- `gather_list`: wide blocks, then blocks, then the rest, if there is one.
use mathlib.Core.Path.{refl}
use Prim.Native.Nat.{◌-◌, ◌%◌}
use native.Mathlib.Omega.{arith}
use lib.ListN.{length}
use Rattle.xor.proofs.BlockLaws.{tail_is, gathered_none, gathered_more, gathered_all}
use Rattle.xor.proofs.into_slice.gather_list.Goals as goal

pub returns-then-whole-n : goal.returns-then-whole-n
returns-then-whole-n c =
    let o = c.args in
    let f = c.requires.1.inside in
    let n = length o.dst.now in
    let wide = n - n % 128 in
    let whole = n - n % 64 in
    let one = gathered_more wide wide o.t.now c.gather_blocks.new.dst (gathered_none o.t.now o.at.now o.dst.now) f (omega arith) (omega arith) refl c.gather_blocks.ensures in
    let two = gathered_more (whole - wide) whole _ c.gather_blocks-2.new.dst one f (omega arith) (omega arith) (tail_is wide o.t.now) c.gather_blocks-2.ensures in
    gathered_all (gathered_more _ n _ c.gather_rest.new.dst two f (omega (arith, two.long)) (omega arith) (tail_is whole o.t.now) c.gather_rest.ensures) f (omega arith)

pub returns-else-whole-n : goal.returns-else-whole-n
returns-else-whole-n c =
    let o = c.args in
    let f = c.requires.1.inside in
    let n = length o.dst.now in
    let wide = n - n % 128 in
    let whole = n - n % 64 in
    let one = gathered_more wide wide o.t.now c.gather_blocks.new.dst (gathered_none o.t.now o.at.now o.dst.now) f (omega arith) (omega arith) refl c.gather_blocks.ensures in
    let two = gathered_more (whole - wide) whole _ c.gather_blocks-2.new.dst one f (omega arith) (omega arith) (tail_is wide o.t.now) c.gather_blocks-2.ensures in
    gathered_all two f (omega arith)
