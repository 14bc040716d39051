-- `rebuild_one`: a refusal leaves the column as it was; else the disk is rebuilt.
use borrow.Author.Rules.{rules}
use Rattle.xor.proofs.SourceLaws.{bytes_all}
use Rattle.rebuild_one.proofs.OneRefusals.{refused_writes, accepted_writes}
use Rattle.rebuild_one.proofs.rebuild_one.Goals as goal

pub returns-in_err-disk : goal.returns-in_err-disk
returns-in_err-disk c =
    let a = c.args in
    refused_writes _ _ a.stripe.now a.column.now c.from_residual.result c.from_residual.ensures.0 (search rules) (bytes_all a.stripe.now c.type_inv.stripe)

pub returns : goal.returns
returns c =
    let a = c.args in
    accepted_writes _ _ a.stripe.now a.column.now c.rebuild_column.new.column c.in_ok-disk.ensures.refusal (search rules) (bytes_all a.stripe.now c.type_inv.stripe)
