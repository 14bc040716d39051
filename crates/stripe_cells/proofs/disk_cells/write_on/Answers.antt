-- `write_on`: the slots from `at` on are written, and come after those before them.
use Prim.Native.Nat.{◌-◌}
use native.Mathlib.Omega.{arith}
use Rattle.parity_sets.specs.ParitySets.{kind_of, number_of}
use Rattle.stripe_cells.proofs.PushedLaws.{none_pushed}
use Rattle.stripe_cells.proofs.WritingLaws.{no_cells}
use Rattle.stripe_cells.proofs.disk_cells.write_on.Goals as goal

pub returns-then-disks : goal.returns-then-disks
returns-then-disks c =
    let a = c.args in
    none_pushed a.geometry.cell_size a.at a.slots.now (omega (arith, c.requires.room)) (no_cells (kind_of a.set) (a.disks.end - a.disks.start) a.geometry.array.width (number_of a.set) a.disks.start (omega arith))
