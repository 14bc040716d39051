-- `cell`: each arm is a place of the definition, or past its list.
use Rattle.std.proofs.Common.{arith}
use Rattle.parity_sets.proofs.SetCells.{row_at, row_past, data_at, parity_at, extra_at, extra_absent, diagonal_past}
use Rattle.parity_sets.proofs.set.ParitySet.cell.Goals as goal

pub returns-in-Row : goal.returns-in-Row
returns-in-Row c = let a = c.args in row_at a.array.width a.array.disks c.in-Row.number a.at a.self c.in-Row.is c.if-at-disks.true

pub returns-in-Diagonal : goal.returns-in-Diagonal
returns-in-Diagonal c = let a = c.args in data_at a.array.width a.array.disks c.in-Diagonal.field-0 a.at a.row a.self c.in-Diagonal.is c.if-at-disks-2.true (rw c.in-Diagonal.is at c.requires.row_is)

pub returns-in-Diagonal-2 : goal.returns-in-Diagonal-2
returns-in-Diagonal-2 c = let a = c.args in parity_at a.array.width a.array.disks c.in-Diagonal-2.number a.at a.self c.in-Diagonal-2.is c.if-at-disks-3.true

pub returns-in_default : goal.returns-in_default
returns-in_default c = let a = c.args in row_past a.array.width a.array.disks c.in-Row.number a.at a.self c.in-Row.is c.if-at-disks.false

pub returns-in_default-2 : goal.returns-in_default-2
returns-in_default-2 c = let a = c.args in diagonal_past a.array.width a.array.disks c.in-Diagonal-3.number a.at a.self c.in-Diagonal-3.is (omega arith)

pub returns-then-disk-disks : goal.returns-then-disk-disks
returns-then-disk-disks c =
    let a = c.args in
    extra_at a.array.width a.array.disks c.in-Diagonal-3.number a.at _ a.self a.array.some a.array.within c.in-Diagonal-3.is c.if-at-disks-4.true (omega (arith, c.extra_disk-disk.ensures)) c.if-disk-disks.true

pub returns-else-disk-disks : goal.returns-else-disk-disks
returns-else-disk-disks c =
    let a = c.args in
    extra_absent a.array.width a.array.disks c.in-Diagonal-3.number a.at a.self c.in-Diagonal-3.is c.if-at-disks-4.true (omega (arith, c.extra_disk-disk.ensures, c.if-disk-disks.false))
