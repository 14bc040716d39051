-- `push_lost`: the cell of the row or the diagonal on the disk, then the extra cell if it is there.
use mathlib.Core.Path.{refl, sym, ◌∙◌}
use native.Mathlib.Omega.{arith}
use Rattle.two_disk_walk.proofs.LostLists.{row_listed, first_listed, other_listed, extra_listed, one_more}
use Rattle.two_disk_walk.proofs.lost_cells.push_lost.Goals.{else-number-ne0-via-then-number-ne0+else-extra_disk-disk, else-number-ne0-via-else-number-ne0}
use Rattle.two_disk_walk.proofs.lost_cells.push_lost.Goals as goal

pub returns-in_default : goal.returns-in_default
returns-in_default c =
    let i = c.in_default in
    let g = c.args.geometry in
    rw i.is (row_listed g.array.width g.array.disks 0 i.field-0 c.args.disk (rw i.is at c.requires.0) c.requires.1 g.cell_size c.args.list.now c.push_on.new.self (rw i.is at c.push_on.ensures) refl)

pub push-requires : goal.push-requires
push-requires c =
    let i = c.in-Diagonal in
    let g = c.args.geometry in
    omega (arith, one_more g.array.width g.array.disks 1 i.number c.args.disk (rw i.is at c.requires.0) c.requires.1 g.cell_size c.args.list.now c.push_on.new.self (rw i.is at c.push_on.ensures), c.requires.2)

pub returns-then-extra_disk-disk : goal.returns-then-extra_disk-disk
returns-then-extra_disk-disk c =
    let i = c.in-Diagonal in
    let g = c.args.geometry in
    rw i.is (extra_listed g.array.width g.array.disks 1 i.number c.args.disk (rw i.is at c.requires.0) c.requires.1 g.cell_size c.args.list.now c.push_on.new.self (rw i.is at c.push_on.ensures) (omega arith) c.if-number-ne0.true (sym c.extra_disk.ensures ∙ c.if-extra_disk-disk.true) c.offset.result c.offset.ensures c.push.new.self c.push.ensures)

pub returns-else-number-ne0 : goal.returns-else-number-ne0
returns-else-number-ne0 c =
    let i = c.in-Diagonal in
    let g = c.args.geometry in
    let h = rw i.is at c.requires.0 in
    let u = rw i.is at c.push_on.ensures in
    rw i.is (elim c.else-number-ne0.branch [
      | else-number-ne0-via-then-number-ne0+else-extra_disk-disk w ↦ other_listed g.array.width g.array.disks 1 i.number c.args.disk h c.requires.1 g.cell_size c.args.list.now c.push_on.new.self u (omega arith) w.if-number-ne0.true (λ e. w.if-extra_disk-disk.false (w.extra_disk.ensures ∙ e))
      | else-number-ne0-via-else-number-ne0 w ↦ first_listed g.array.width g.array.disks 1 i.number c.args.disk h c.requires.1 g.cell_size c.args.list.now c.push_on.new.self u (omega arith) w.if-number-ne0.false
    ])
