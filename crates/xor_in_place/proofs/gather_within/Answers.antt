-- `gather_within`: wide blocks, then blocks, then the rest, if there is one.
use mathlib.Core.Path.{refl}
use Prim.Native.Nat.{◌-◌, ◌%◌}
use native.Mathlib.Omega.{arith}
use Rattle.xor_in_place.proofs.WithinLaws.{within_first, within_long, within_more, within_all, beside_less, beside_tail}
use Rattle.xor_in_place.proofs.gather_within.Goals as goal

pub put_blocks-requires : goal.put_blocks-requires
put_blocks-requires c = (omega arith, omega arith, beside_less (c.args.n - c.args.n % 128) (omega arith) c.requires)

pub put_rest-requires : goal.put_rest-requires
put_rest-requires c =
    let o = c.args in
    let n = o.n in
    let wide = n - n % 128 in
    let whole = n - n % 64 in
    let one = within_first o.d n o.t.now o.at.now c.requires wide c.put_blocks.new.t (omega arith) c.put_blocks.ensures in
    let two = within_more o.d n o.t.now o.at.now c.requires wide (whole - wide) whole c.put_blocks.new.t c.put_blocks-2.new.t (omega arith) (omega arith) one c.put_blocks-2.ensures in
    let r = beside_tail o.d n whole (n - whole) o.t.now _ o.at.now (omega arith) (within_long o.d n o.t.now o.at.now c.requires whole _ (omega arith) two) c.requires in
    (omega arith, r.fits, r.sources)

pub returns-then-whole-n : goal.returns-then-whole-n
returns-then-whole-n c =
    let o = c.args in
    let n = o.n in
    let wide = n - n % 128 in
    let whole = n - n % 64 in
    let one = within_first o.d n o.t.now o.at.now c.requires wide c.put_blocks.new.t (omega arith) c.put_blocks.ensures in
    let two = within_more o.d n o.t.now o.at.now c.requires wide (whole - wide) whole c.put_blocks.new.t c.put_blocks-2.new.t (omega arith) (omega arith) one c.put_blocks-2.ensures in
    within_all o.d n o.t.now o.at.now c.requires n _ refl (within_more o.d n o.t.now o.at.now c.requires whole (n - whole) n _ c.put_rest.new.t (omega arith) (omega arith) two c.put_rest.ensures)

pub returns-else-whole-n : goal.returns-else-whole-n
returns-else-whole-n c =
    let o = c.args in
    let n = o.n in
    let wide = n - n % 128 in
    let whole = n - n % 64 in
    let one = within_first o.d n o.t.now o.at.now c.requires wide c.put_blocks.new.t (omega arith) c.put_blocks.ensures in
    within_all o.d n o.t.now o.at.now c.requires whole _ (omega arith) (within_more o.d n o.t.now o.at.now c.requires wide (whole - wide) whole c.put_blocks.new.t c.put_blocks-2.new.t (omega arith) (omega arith) one c.put_blocks-2.ensures)
