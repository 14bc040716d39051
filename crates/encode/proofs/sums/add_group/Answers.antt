-- `add_group`: the rows from `first` on go with the diagonals from 0 on, then the rows from 0 on
-- with the diagonals that are left, so every set is added once.
use native.Mathlib.Omega.{arith}
use Prim.Native.Nat.{◌-◌}
use Rattle.encode.proofs.SetLoops.{sets_both}
use Rattle.encode.proofs.sums.add_group.Goals as goal

pub returns : goal.returns
returns c =
    let a = c.args in
    let w = a.group.geometry in
    let r = c.row_on-first.result in
    let e = c.row_on-first.ensures (omega arith) in
    sets_both w.array.width w.array.disks w.cell_size a.group.first a.group.end (omega arith) a.group.last r (w.array.width - r) a.stripe.now c.add_sets.new.stripe c.add_sets-2.new.stripe (omega arith) c.add_sets.ensures c.add_sets-2.ensures
