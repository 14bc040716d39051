-- `rebuild_cells`: the tests, then the mend.
use Rattle.std.proofs.Common.{rules}
use Rattle.xor.proofs.SourceLaws.{bytes_all}
use Rattle.rebuild_cells.proofs.MendRefusals.{mend_refused, mend_done}
use Rattle.rebuild_cells.proofs.rebuild_cells.Goals as goal

pub returns-in_err-geometry : goal.returns-in_err-geometry
returns-in_err-geometry c =
    let a = c.args in
    mend_refused a.shape a.missing.now a.stripe.now c.from_residual.result c.from_residual.ensures.0 (search rules) (bytes_all a.stripe.now c.type_inv.stripe)

pub returns : goal.returns
returns c =
    let a = c.args in
    mend_done a.shape a.missing.now a.stripe.now c.mend.new.stripe c.in_ok-geometry.geometry c.mend.result c.in_ok-geometry.ensures.refusal c.in_ok-geometry.ensures.geometry c.mend.ensures (bytes_all a.stripe.now c.slice_known-1.given)
