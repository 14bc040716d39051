-- `write_but`: the parts before, between and after the lost disks come one after another.
use Prim.Native.Nat.{◌+◌, ◌-◌}
use native.Mathlib.Omega.{arith}
use Rattle.parity_sets.specs.ParitySets.{kind_of, number_of}
use Rattle.stripe_cells.proofs.AppendedLaws.{data_appended}
use Rattle.stripe_cells.proofs.PushedLaws.{data_count}
use Rattle.stripe_cells.proofs.surviving.write_but.Goals as goal

pub write_on-high-requires-clause-room : goal.write_on-high-requires-clause-room
write_on-high-requires-clause-room c =
    let a = c.args in
    let w = a.geometry in
    let n = data_count w.array.width w.cell_size (kind_of a.set) (number_of a.set) (omega arith) (c.min.result - 0) 0 c.write_on-low.ensures in
    omega (arith, n, c.write_on-low.auto.slots)

pub write_on-requires-clause-room : goal.write_on-requires-clause-room
write_on-requires-clause-room c =
    let a = c.args in
    let w = a.geometry in
    let n = data_count w.array.width w.cell_size (kind_of a.set) (number_of a.set) (omega arith) (c.min.result - 0) 0 c.write_on-low.ensures in
    let m = data_count w.array.width w.cell_size (kind_of a.set) (number_of a.set) (omega arith) (c.min-2.result - (a.lost.low + 1)) (a.lost.low + 1) c.write_on-high.ensures in
    omega (arith, n, m, c.write_on-low.auto.slots, c.write_on-high.auto.slots)

pub returns : goal.returns
returns c =
    let a = c.args in
    let w = a.geometry in
    record {
      list = data_appended w.array.width a.end w.cell_size (kind_of a.set) (number_of a.set) _ _ _ _ a.lost.low a.lost.high c.min.result c.min-2.result c.requires.numbered a.lost.ordered c.min.ensures c.min-2.ensures c.write_on-low.ensures.list c.write_on-high.ensures.list
          c.write_on.ensures.list;
      fits = c.write_on.ensures.fits;
    }
