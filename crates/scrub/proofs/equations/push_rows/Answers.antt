-- `push_rows`: the row set of the diagonal's ordinary cell on the disk, then that of its extra
-- cell's row where that cell is there too.
use Prim.Native.Nat.{◌-◌}
use native.Mathlib.Omega.{arith}
use Rattle.stripe_cells.proofs.AppendedLaws.{set_length}
use Rattle.scrub.proofs.EquationLists.{one_lost, rows_zero, rows_apart, rows_both}
use Rattle.scrub.proofs.equations.push_rows.Goals as goal
use Rattle.scrub.proofs.equations.push_rows.Goals.{else-number-ne0-via-then-number-ne0+else-extra_disk-disk, else-number-ne0-via-else-number-ne0}

pub push_surviving-requires-then-extra_disk-disk : goal.push_surviving-requires-then-extra_disk-disk
push_surviving-requires-then-extra_disk-disk c =
    let a = c.args in
    let w = a.geometry in
    let n = set_length w.array.width w.array.disks w.cell_size 0 c.row_on-row.result _ _ c.one-lost.result.low c.one-lost.result.high c.push_surviving.ensures in
    (omega arith, (omega arith, omega (arith, n)))

pub returns-then-extra_disk-disk : goal.returns-then-extra_disk-disk
returns-then-extra_disk-disk c =
    let a = c.args in
    let w = a.geometry in
    let o = c.one-lost in
    rows_both w.array.width w.array.disks w.cell_size a.disk a.number c.row_on-row.result c.requires.numbered.0 c.requires.numbered.1 (c.row_on-row.ensures (omega arith)) _ _ _ c.extra_disk.result c.extra_disk.ensures c.if-extra_disk-disk.true c.if-number-ne0.true
    (one_lost w.array.width w.array.disks w.cell_size a.disk o.result.low o.result.high 0 c.row_on-row.result _ _ o.ensures c.push_surviving.ensures)
    (one_lost w.array.width w.array.disks w.cell_size a.disk o.result.low o.result.high 0 (w.array.width - 1 - a.number) _ _ o.ensures c.push_surviving-then-extra_disk-disk.ensures)

pub returns-else-number-ne0 : goal.returns-else-number-ne0
returns-else-number-ne0 c =
    let a = c.args in
    let w = a.geometry in
    let o = c.one-lost in
    let u = one_lost w.array.width w.array.disks w.cell_size a.disk o.result.low o.result.high 0 c.row_on-row.result _ _ o.ensures c.push_surviving.ensures in
    elim c.else-number-ne0.branch [
      | else-number-ne0-via-then-number-ne0+else-extra_disk-disk v ↦ rows_apart w.array.width w.array.disks w.cell_size a.disk a.number c.row_on-row.result c.requires.numbered.0 c.requires.numbered.1 (c.row_on-row.ensures (omega arith)) _ _ v.extra_disk.result v.extra_disk.ensures v.if-extra_disk-disk.false u
      | else-number-ne0-via-else-number-ne0 v ↦ rows_zero w.array.width w.array.disks w.cell_size a.disk a.number c.row_on-row.result c.requires.numbered.0 c.requires.numbered.1 (c.row_on-row.ensures (omega arith)) _ _ v.if-number-ne0.false u
    ]
