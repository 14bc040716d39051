-- `push_others`: the ordinary cells but that on the disk, then the extra cell, of which no disk is
-- left out.
use mathlib.Core.Path.{ap}
use native.Mathlib.Omega.{arith}
use lib.Seq.{length-take-le}
use lib.ListN.{length}
use Rattle.parity_sets.specs.ParitySets.{kind_of, number_of}
use Rattle.stripe_cells.proofs.AppendedLaws.{others_appended}
use Rattle.stripe_cells.proofs.PushedLaws.{in_front, ordinary_most}
use Rattle.stripe_cells.proofs.offsets.Offsets.push_others.Goals as goal

pub write_extra-self-inside-requires-clause-room : goal.write_extra-self-inside-requires-clause-room
write_extra-self-inside-requires-clause-room g c =
    let a = c.args in
    let w = a.geometry in
    let q = c.self.inside in
    let e = c.write_ordinary-end in
    let count = length-take-le q.count q.items (omega (arith, c.self.told, c.self.invariant)) in
    let n = ordinary_most w.array.width w.cell_size (kind_of a.set) (number_of a.set) (omega (arith, c.self.told, c.self.invariant)) w.array.disks c.one-lost.result.low c.one-lost.result.high e.ensures in
    omega (arith, n, count, ap length c.self.view_is, e.auto.slots, c.self.told, c.requires.room)

pub returns : goal.returns
returns g c =
    let a = c.args in
    let w = a.geometry in
    let one = c.one-lost in
    let none = c.none-none in
    others_appended w.array.width w.array.disks w.cell_size (kind_of a.set) (number_of a.set) _ _ _ a.disk one.result.low one.result.high none.result.low none.result.high c.requires.numbered.0 (omega arith) one.ensures none.ensures
    (in_front c.self.view_is c.write_ordinary-end.ensures) c.write_extra-self-inside.ensures.list
