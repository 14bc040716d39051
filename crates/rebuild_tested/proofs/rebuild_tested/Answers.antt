-- `rebuild_tested`: a refusal leaves the column as it was; else the survivors fit, and the disk is
-- rebuilt.
use borrow.Author.Rules.{rules}
use Rattle.xor.proofs.SourceLaws.{bytes_all}
use Rattle.rebuild_tested.proofs.TestedRefusals.{refused_tested, accepted_tested}
use Rattle.rebuild_tested.proofs.rebuild_tested.Goals as goal

pub returns-in_err-disk : goal.returns-in_err-disk
returns-in_err-disk c =
    let a = c.args in
    let s = a.shape in
    refused_tested s.width s.disks s.cell_size a.lost a.stripe.now a.column.now c.from_residual.result c.from_residual.ensures.0 (search rules) (bytes_all a.stripe.now c.type_inv.stripe)

pub returns : goal.returns
returns c =
    let a = c.args in
    let s = a.shape in
    accepted_tested s.width s.disks s.cell_size a.lost a.stripe.now a.column.now c.tested_column.new.column c.in_ok-disk.ensures.refusal (search rules) (bytes_all a.stripe.now c.type_inv.stripe)
