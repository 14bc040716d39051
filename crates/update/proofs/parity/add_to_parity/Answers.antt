-- `add_to_parity`: the parity cells one by one, the second diagonal only where it is the next and
-- holds the cell.
use Prim.Native.Nat.{◌+◌}
use native.Mathlib.Omega.{arith}
use Rattle.std.proofs.Common.{rules}
use Rattle.refusals.specs.StripeOf.{IsStripeOf}
use Rattle.update.proofs.CellPlaces.{data_cell, row_fits, diagonal_fits}
use Rattle.update.proofs.FromCell.{added_once, added_twice}
use Rattle.update.proofs.parity.add_to_parity.Goals as goal

pub add_cell-requires : goal.add_cell-requires
add_cell-requires c =
    let x = c.args.target in
    let a = x.geometry.array in
    rw (c.place-from.ensures.0, c.row_parity.ensures.0) (row_fits a.width a.disks x.geometry.cell_size x.row x.disk c.args.stripe.now (data_cell x c.args.stripe.now c.requires))

pub add_cell-requires-then-number-width : goal.add_cell-requires-then-number-width
add_cell-requires-then-number-width c =
    let x = c.args.target in
    let a = x.geometry.array in
    let q : IsStripeOf x.geometry c.add_cell-2.new.stripe = search rules in
    let w = diagonal_fits a.width a.disks x.geometry.cell_size x.row x.disk c.add_cell-2.new.stripe (data_cell x c.add_cell-2.new.stripe q) (c.diagonal-number.result + 1) (omega arith) in
    (omega (arith, w.0, c.place-from.ensures.0), omega (arith, w.1))

pub returns-then-number-width : goal.returns-then-number-width
returns-then-number-width c =
    let x = c.args.target in
    let a = x.geometry.array in
    added_twice a.width a.disks x.geometry.cell_size x.row x.disk c.diagonal-number.result c.args.stripe.now (data_cell x c.args.stripe.now c.requires) c.diagonal-number.ensures.0 c.add_cell.new.stripe c.add_cell-2.new.stripe c.add_cell-then-number-width.new.stripe (rw (c.place-from.ensures.0, c.row_parity.ensures.0) at c.add_cell.ensures) (rw c.place-from.ensures.0 at c.add_cell-2.ensures) (rw c.place-from.ensures.0 at c.add_cell-then-number-width.ensures) c.if-number-width.true

pub returns-else-number-width : goal.returns-else-number-width
returns-else-number-width c =
    let x = c.args.target in
    let a = x.geometry.array in
    added_once a.width a.disks x.geometry.cell_size x.row x.disk c.diagonal-number.result c.args.stripe.now (data_cell x c.args.stripe.now c.requires) c.diagonal-number.ensures.0 c.add_cell.new.stripe c.add_cell-2.new.stripe (rw (c.place-from.ensures.0, c.row_parity.ensures.0) at c.add_cell.ensures) (rw c.place-from.ensures.0 at c.add_cell-2.ensures) c.if-number-width.false
