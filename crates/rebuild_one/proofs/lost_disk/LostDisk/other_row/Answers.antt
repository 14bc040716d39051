-- `other_row`: a row set has one cell on the disk, and so has a diagonal set whose extra cell is
-- elsewhere or absent. Of two cells there, one is that of the row.
use mathlib.Core.Path.{refl, sym, ◌∙◌}
use native.Mathlib.Omega.{arith}
use Rattle.rebuild_one.proofs.LostLaws.{alone_row, alone_first, alone_parity, alone_off, other_extra, other_ordinary}
use Rattle.parity_sets.proofs.NumberLaws.{next_below}
use Rattle.rebuild_one.proofs.lost_disk.LostDisk.other_row.Goals.{then-number-eq0-via-then-number-eq0, then-number-eq0-via-else-number-eq0+then-array-self}
use Rattle.rebuild_one.proofs.lost_disk.LostDisk.other_row.Goals as goal

pub returns-in_default : goal.returns-in_default
returns-in_default c =
    let i = c.in_default in
    let g = c.args.self.geometry in
    rw i.is (alone_row g.array.width g.array.disks c.args.self.disk c.args.row 0 i.field-0 (rw i.is at c.requires.0) c.requires.1 (rw i.is at c.requires.2) refl)

pub returns-then-number-eq0 : goal.returns-then-number-eq0
returns-then-number-eq0 c =
    let i = c.in-Diagonal in
    let g = c.args.self.geometry in
    let h = rw i.is at c.requires.0 in
    let own = rw i.is at c.requires.2 in
    rw i.is (elim c.then-number-eq0.branch [
      | then-number-eq0-via-then-number-eq0 w ↦ alone_first g.array.width g.array.disks c.args.self.disk c.args.row 1 i.number h c.requires.1 own w.if-number-eq0.true
      | then-number-eq0-via-else-number-eq0+then-array-self w ↦ alone_parity g.array.width g.array.disks c.args.self.disk c.args.row 1 i.number h c.requires.1 own w.if-array-self.true
    ])

pub returns-then-extra_disk-self : goal.returns-then-extra_disk-self
returns-then-extra_disk-self c =
    let i = c.in-Diagonal in
    let g = c.args.self.geometry in
    rw i.is (alone_off g.array.width g.array.disks c.args.self.disk c.args.row 1 i.number (rw i.is at c.requires.0) c.requires.1 (rw i.is at c.requires.2) (λ q. c.if-extra_disk-self.true (c.extra_disk.ensures ∙ q)))

pub returns-then-extra-row : goal.returns-then-extra-row
returns-then-extra-row c =
    let i = c.in-Diagonal in
    let g = c.args.self.geometry in
    let h = rw i.is at c.requires.0 in
    let e = c.row_on.ensures (omega (arith, g.array.within)) in
    (next_below g.array.width i.number c.args.self.disk c.row_on.result (omega arith) e, rw i.is (other_ordinary g.array.width g.array.disks c.args.self.disk c.args.row 1 i.number h c.requires.1 (rw i.is at c.requires.2) (omega arith) c.if-number-eq0.false c.if-array-self.false (sym c.extra_disk.ensures ∙ c.if-extra_disk-self.false) c.row_on.result c.if-extra-row.true e))

pub returns-else-extra-row : goal.returns-else-extra-row
returns-else-extra-row c =
    let i = c.in-Diagonal in
    let g = c.args.self.geometry in
    (omega arith, rw i.is (other_extra g.array.width g.array.disks c.args.self.disk c.args.row 1 i.number (rw i.is at c.requires.0) c.requires.1 (rw i.is at c.requires.2) (omega arith) c.if-number-eq0.false c.if-array-self.false (sym c.extra_disk.ensures ∙ c.if-extra_disk-self.false) c.if-extra-row.false))
