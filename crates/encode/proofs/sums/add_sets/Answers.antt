-- `add_sets`: each turn adds the next row set and the next diagonal set. The invariant: of each
-- kind, as many sets as turns have the group added.
use mathlib.Core.Path.{◌≡◌, refl, ◌∙◌}
use Prim.Native.Nat.{◌+◌, ◌*◌}
use native.Mathlib.Omega.{arith}
use lib.ListN.{length}
use Rattle.encode.proofs.SetLoops.{sets_none, sets_turn, sets_end}
use Rattle.encode.proofs.sums.add_sets.Goals as goal

pub loop-j-init : goal.loop-j-init
loop-j-init c =
    let a = c.args in
    let w = a.group.geometry in
    (refl, sets_none w.array.width w.array.disks w.cell_size a.group.first a.group.end (omega arith) a.group.last a.row a.number a.stripe.now)

pub loop-j-preserved : goal.loop-j-preserved
loop-j-preserved c =
    let a = c.args in
    let w = a.group.geometry in
    let l = c.loop-j in
    let whole : length a.stripe.now ≡ w.array.width * (w.array.disks + 2) * w.cell_size = c.requires.stripe_len ∙ omega arith in
    let u : length l.stripe ≡ w.array.width * (w.array.disks + 2) * w.cell_size = l.invariant.0 ∙ whole in
    let v : length c.add_set.new.stripe ≡ w.array.width * (w.array.disks + 2) * w.cell_size = omega arith in (
      omega arith,
      sets_turn w.array.width w.array.disks w.cell_size a.group.first a.group.end (omega arith) a.group.last a.row a.number l.j a.stripe.now l.stripe c.add_set.new.stripe c.add_set-in-loop-j.new.stripe (omega arith) (omega arith) u v c.add_set.ensures c.add_set-in-loop-j.ensures l.invariant.1,
    )

pub returns : goal.returns
returns c =
    let a = c.args in
    let w = a.group.geometry in
    let l = c.loop-j in
    sets_end w.array.width w.array.disks w.cell_size a.group.first a.group.end a.row a.number l.j a.count a.stripe.now l.stripe (omega arith) l.invariant.1
