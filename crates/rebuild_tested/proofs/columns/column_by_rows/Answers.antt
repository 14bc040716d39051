-- `column_by_rows`: the columns before and after the disk are listed, and their XOR becomes the
-- column.
use mathlib.Core.Path.{ap, ◌∙◌}
use Prim.Native.Nat.{◌-◌}
use native.Mathlib.Omega.{arith}
use lib.ListN.{length}
use Rattle.stripe_cells.proofs.AppendedLaws.{data_length}
use Rattle.rebuild_tested.proofs.TestedRows.{others_reached, rows_gathered}
use Rattle.rebuild_tested.proofs.columns.column_by_rows.Goals as goal

pub push_on-requires-2 : goal.push_on-requires-2
push_on-requires-2 c =
    let l = c.args.lost in
    let g = l.geometry in
    let n = data_length g.array.width g.array.disks g.cell_size 0 0 c.new-list.result c.push_on.new.self (l.disk - 0) 0 c.push_on.ensures in
    (omega arith, (g.array.some, (omega (arith, g.array.within), omega (arith, n, ap length c.new-list.ensures, c.requires.2, g.array.within, g.array.widest))))

pub gather_stretches-requires : goal.gather_stretches-requires
gather_stretches-requires c =
    let a = c.args in
    let l = a.lost in
    let g = l.geometry in
    others_reached g.array.width g.array.disks g.cell_size l.disk (length a.column.now) a.stripe.now g.array.some c.requires.2 (omega (arith, g.array.within, g.array.widest)) c.requires.0 c.requires.1 c.new-list.result c.push_on.new.self c.as_slice.result.now c.new-list.ensures c.push_on.ensures (c.as_slice.ensures.0 ∙ c.push_on-2.ensures)

pub returns : goal.returns
returns c =
    let a = c.args in
    let l = a.lost in
    let g = l.geometry in
    rows_gathered g.array.width g.array.disks g.cell_size l.disk (length a.column.now) a.stripe.now g.array.some c.requires.2 (omega (arith, g.array.within, g.array.widest)) c.requires.0 c.requires.1 c.new-list.result c.push_on.new.self c.as_slice.result.now c.new-list.ensures c.push_on.ensures (c.as_slice.ensures.0 ∙ c.push_on-2.ensures) c.gather_stretches.new.dst c.gather_stretches.ensures
