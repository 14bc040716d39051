-- `write_cell`: nothing for a cell on a lost disk, else its offset.
use mathlib.Core.Path.{refl}
use borrow.Author.Rules.{rules}
use native.Mathlib.Omega.{arith}
use Rattle.liberation.specs.Sets.{place}
use Rattle.stripe_cells.proofs.AppendedLaws.{one_left, one_lost}
use Rattle.stripe_cells.proofs.PushedLaws.{none_pushed, one_pushed}
use Rattle.stripe_cells.proofs.surviving.write_cell.Goals as goal

pub returns-then-has : goal.returns-then-has
returns-then-has c =
    let a = c.args in
    none_pushed a.geometry.cell_size a.at a.slots.now (omega (arith, c.requires.room)) (one_lost a.geometry.array.width a.lost.low a.lost.high a.row a.disk c.requires.cell.0 (search rules))

pub returns : goal.returns
returns c =
    let a = c.args in
    one_pushed a.geometry.cell_size a.at (place a.geometry.array.width a.row a.disk) _ a.slots.now c.requires.room refl (one_left a.geometry.array.width a.lost.low a.lost.high a.row a.disk c.requires.cell.0 (search rules))
