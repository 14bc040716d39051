-- `write_ordinary`: a row's cells are on the data disks and P, a diagonal's on the data disks and then
-- on Q.
use mathlib.Core.Path.{subst}
use mathlib.Core.List.{List}
use Prim.Native.Nat.{ℕ, ◌+◌}
use native.Mathlib.Numerals.{add-one}
use native.Mathlib.Omega.{arith}
use Rattle.stripe_cells.specs.Offsets.{scaled, Pushed}
use Rattle.stripe_cells.specs.OrdinaryCells.{survivors}
use Rattle.stripe_cells.proofs.AppendedLaws.{ordinary_appended}
use Rattle.stripe_cells.proofs.PushedLaws.{data_most, row_cells}
use Rattle.stripe_cells.proofs.surviving.write_ordinary.Goals as goal

pub returns-in-Row : goal.returns-in-Row
returns-in-Row c =
    let a = c.args in
    let w = a.geometry in
    subst (λ (xs : List ℕ). Pushed a.slots.now c.write_but.new.slots a.at c.write_but.result (scaled w.cell_size (survivors w.array.width a.lost.low a.lost.high xs))) (row_cells a.set w.array.width w.array.disks c.in-Row.field-0 c.in-Row.is) c.write_but.ensures

pub write_cell-requires-clause-room : goal.write_cell-requires-clause-room
write_cell-requires-clause-room c =
    let a = c.args in
    let w = a.geometry in
    let n = data_most w.array.width w.cell_size 1 c.in-Diagonal.number (omega (arith, c.requires.room)) w.array.disks a.lost.low a.lost.high c.write_but-next.ensures in
    omega (arith, n, c.write_but-next.auto.slots, c.requires.room)

pub returns-in-Diagonal : goal.returns-in-Diagonal
returns-in-Diagonal c =
    let a = c.args in
    let w = a.geometry in
    let k = w.array.disks in
    rw c.in-Diagonal.is (
    record {
      list = ordinary_appended w.array.width k w.cell_size 1 c.in-Diagonal.number _ _ _ a.lost.low a.lost.high (k + 1) (add-one k) c.write_but-next.ensures.list c.write_cell.ensures.list;
      fits = c.write_cell.ensures.fits;
    }
    )
