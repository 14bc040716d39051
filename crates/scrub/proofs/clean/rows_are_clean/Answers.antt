-- `rows_are_clean`: the XOR of the columns of the data disks and P is zero exactly if that of every
-- row is.
use Prim.Native.Nat.{◌+◌, ◌*◌, ◌<◌}
use native.Mathlib.Omega.{arith}
use Rattle.liberation.proofs.Stripes.StripeCellLaws.{cell_fits}
use Rattle.stripe_cells.proofs.ColumnLaws.{columns_reached}
use Rattle.scrub.proofs.CheckLaws.{first_row, rows_clean}
use Rattle.scrub.proofs.clean.rows_are_clean.Goals as goal

pub is_zero-requires : goal.is_zero-requires
is_zero-requires c =
    let a = c.args in
    let w = a.geometry in
    let l : 0 < w.array.disks + 2 = omega arith in
    let e = first_row w.array.width w.array.disks w.cell_size a.stripe.now w.array.some c.requires c.new-list.result c.push_on.new.self c.new-list.ensures c.push_on.ensures in
    let r = columns_reached w.array.width w.array.disks w.cell_size (w.array.disks + 2) w.array.some e (omega (arith, c.as_slice.ensures.1)) (omega (arith, c.requires)) in
    rw (c.column_bytes.ensures.0, c.as_slice.ensures.0) (omega (arith, c.requires, cell_fits (w.array.disks + 2) (w.array.width * w.cell_size) 0 l), r)

pub returns : goal.returns
returns c =
    let a = c.args in
    let w = a.geometry in
    let e = first_row w.array.width w.array.disks w.cell_size a.stripe.now w.array.some c.requires c.new-list.result c.push_on.new.self c.new-list.ensures c.push_on.ensures in
    let r = columns_reached w.array.width w.array.disks w.cell_size (w.array.disks + 2) w.array.some e (omega (arith, c.as_slice.ensures.1)) (omega (arith, c.requires)) in
    rows_clean w.array.width w.array.disks w.cell_size a.stripe.now w.array.some c.requires c.push_on.new.self c.is_zero.result e r (rw (c.column_bytes.ensures.0, c.as_slice.ensures.0) at c.is_zero.ensures)
