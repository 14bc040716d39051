-- `list_equation`: a row set for Q, a diagonal set for P, a diagonal set and the row sets of its
-- rows there for a data disk.
use mathlib.Core.Path.{ap}
use native.Mathlib.Omega.{arith}
use lib.ListN.{length}
use Rattle.stripe_cells.proofs.AppendedLaws.{set_length}
use Rattle.stripe_cells.proofs.SolvedLaws.{from_none}
use Rattle.scrub.proofs.EquationLists.{one_lost, last_listed, row_parity_listed, data_listed}
use Rattle.scrub.proofs.equations.list_equation.Goals as goal

pub returns-then-disk-disks : goal.returns-then-disk-disks
returns-then-disk-disks c =
    let a = c.args in
    let w = a.geometry in
    last_listed w.array.width w.array.disks w.cell_size a.disk a.number c.requires.0 _ c.if-disk-disks.true (from_none _ _ _ c.clear.ensures (one_lost w.array.width w.array.disks w.cell_size a.disk c.one.result.low c.one.result.high 0 a.number _ _ c.one.ensures c.push_surviving.ensures))

pub push_rows-requires-clause-room : goal.push_rows-requires-clause-room
push_rows-requires-clause-room c =
    let a = c.args in
    let w = a.geometry in
    let n = set_length w.array.width w.array.disks w.cell_size 1 a.number _ _ c.one-2.result.low c.one-2.result.high c.push_surviving-2.ensures in
    omega (arith, n, ap length c.clear.ensures)

pub returns-then-disk-disks-2 : goal.returns-then-disk-disks-2
returns-then-disk-disks-2 c =
    let a = c.args in
    let w = a.geometry in
    data_listed w.array.width w.array.disks w.cell_size a.disk a.number c.requires.0 _ _ (omega arith) (from_none _ _ _ c.clear.ensures (one_lost w.array.width w.array.disks w.cell_size a.disk c.one-2.result.low c.one-2.result.high 1 a.number _ _ c.one-2.ensures c.push_surviving-2.ensures)) c.push_rows.ensures

pub returns-else-disk-disks-2 : goal.returns-else-disk-disks-2
returns-else-disk-disks-2 c =
    let a = c.args in
    let w = a.geometry in
    row_parity_listed w.array.width w.array.disks w.cell_size a.disk a.number c.requires.0 _ (omega arith) (from_none _ _ _ c.clear.ensures (one_lost w.array.width w.array.disks w.cell_size a.disk c.one-2.result.low c.one-2.result.high 1 a.number _ _ c.one-2.ensures c.push_surviving-2.ensures))
