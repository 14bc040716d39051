-- `solve_rows`: the columns before and after the disk are listed, and their XOR is put in place of
-- the disk's column.
use mathlib.Core.Path.{ap}
use native.Mathlib.Omega.{arith}
use lib.ListN.{length}
use Prim.Native.Nat.{◌-◌}
use Rattle.stripe_cells.proofs.AppendedLaws.{data_length}
use Rattle.stripe_cells.proofs.SolvedLaws.{columns_lie, columns_put}
use Rattle.stripe_cells.proofs.solve_rows.Goals as goal

pub push_on-requires-2 : goal.push_on-requires-2
push_on-requires-2 c =
    let a = c.args in
    let w = a.geometry in
    let n = data_length w.array.width w.array.disks w.cell_size 0 0 _ _ (a.disk - 0) 0 c.push_on.ensures in
    (omega arith, (w.array.some, (omega arith, omega (arith, n, ap length c.new-list.ensures))))

pub gather-requires : goal.gather-requires
gather-requires c =
    let a = c.args in
    let w = a.geometry in
    (omega arith, rw c.column_bytes-column.ensures.0 (columns_lie w.array.width w.array.disks w.cell_size a.disk w.array.some c.requires.disk_bound c.new-list.result c.push_on.new.self c.push_on-2.new.self a.stripe.now c.new-list.ensures c.push_on.ensures c.push_on-2.ensures c.requires.stripe_len (omega arith)))

pub returns : goal.returns
returns c =
    let a = c.args in
    let w = a.geometry in
    columns_put w.array.width w.array.disks w.cell_size a.disk w.array.some c.requires.disk_bound c.new-list.result c.push_on.new.self c.push_on-2.new.self a.stripe.now c.new-list.ensures c.push_on.ensures c.push_on-2.ensures c.requires.stripe_len (omega arith) c.gather.new.stripe (rw c.column_bytes-column.ensures.0 at c.gather.ensures)
