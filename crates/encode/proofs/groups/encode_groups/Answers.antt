-- `encode_groups`: each turn adds the next group to all parity cells. The invariant: they hold the
-- sums over the data disks before `first`, and data cells are unchanged. After the last group every
-- set is clean.
use mathlib.Core.Path.{◌≡◌, refl, ◌∙◌}
use Prim.Native.Nat.{◌+◌, ◌*◌}
use native.Mathlib.Omega.{arith}
use borrow.Author.Rules.{rules}
use lib.ListN.{length}
use Rattle.xor.proofs.SourceLaws.{bytes_all}
use Rattle.encode.proofs.GroupLoops.{summed_none, summed_turn, summed_all_lem}
use Rattle.encode.proofs.groups.encode_groups.Goals as goal

pub loop-first-init : goal.loop-first-init
loop-first-init c = let w = c.args.geometry in (omega arith, refl, bytes_all c.args.stripe.now (search rules), summed_none w.array.width w.array.disks w.cell_size c.args.stripe.now)

pub loop-first-preserved : goal.loop-first-preserved
loop-first-preserved c =
    let w = c.args.geometry in
    let l = c.loop-first in
    let v = c.add_group in
    let f = c.from_disk-group in
    let whole : length c.args.stripe.now ≡ w.array.width * (w.array.disks + 2) * w.cell_size = c.requires ∙ omega arith in (
      f.ensures.2,
      omega arith,
      bytes_all v.new.stripe (search rules),
      summed_turn w.array.width w.array.disks w.cell_size l.first f.result.end c.args.stripe.now l.stripe v.new.stripe (omega arith) f.ensures.2 whole l.invariant.3 (rw (f.ensures.0, f.ensures.1) at v.ensures),
    )

pub returns : goal.returns
returns c =
    let w = c.args.geometry in
    let l = c.loop-first in
    let whole : length c.args.stripe.now ≡ w.array.width * (w.array.disks + 2) * w.cell_size = c.requires ∙ omega arith in
    let still : length l.stripe ≡ w.array.width * (w.array.disks + 2) * w.cell_size = l.invariant.1 ∙ whole in
    summed_all_lem w.array.width w.array.disks w.cell_size l.first c.args.stripe.now l.stripe (omega arith) (omega arith) whole still (bytes_all c.args.stripe.now (search rules)) l.invariant.2 l.invariant.3
