-- `update_cell`: a refusal leaves the stripe as it was; else the cell is put in, with its parity
-- cells.
use Rattle.std.proofs.Common.{rules}
use Rattle.xor.proofs.SourceLaws.{bytes_all}
use Rattle.update.proofs.UpdateRefusals.{refused_update, accepted_update}
use Rattle.update.proofs.update_cell.Goals as goal

pub returns-in_err-target : goal.returns-in_err-target
returns-in_err-target c =
    let a = c.args in
    refused_update a.shape a.row a.disk a.stripe.now a.cell.now c.from_residual.result c.from_residual.ensures.0 (search rules) (bytes_all a.stripe.now c.type_inv.stripe) (bytes_all a.cell.now c.type_inv.cell)

pub returns : goal.returns
returns c =
    let a = c.args in
    accepted_update a.shape a.row a.disk a.stripe.now a.cell.now c.put_cell.new.stripe c.in_ok-target.target c.in_ok-target.ensures.refusal c.in_ok-target.ensures.target c.put_cell.ensures (bytes_all a.stripe.now c.slice_known-1.given) (bytes_all a.cell.now c.shared_slice_known-1.given)
