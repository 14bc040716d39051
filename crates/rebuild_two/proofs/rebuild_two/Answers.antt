-- `rebuild_two`: a refusal leaves the stripe as it was; else both disks are rebuilt in it.
use borrow.Author.Rules.{rules}
use Rattle.xor.proofs.SourceLaws.{bytes_all}
use Rattle.rebuild_two.proofs.TwoRefusals.{two_refused, two_done}
use Rattle.rebuild_two.proofs.rebuild_two.Goals as goal

pub returns-in_err-geometry : goal.returns-in_err-geometry
returns-in_err-geometry c =
    let a = c.args in
    let s = a.shape in
    two_refused s.width s.disks s.cell_size a.first a.second a.stripe.now c.from_residual.result c.from_residual.ensures.0 (search rules) (bytes_all a.stripe.now c.type_inv.stripe)

pub returns : goal.returns
returns c =
    let a = c.args in
    let s = a.shape in
    two_done s.width s.disks s.cell_size a.first a.second a.stripe.now c.solve_pair.new.stripe c.in_ok-geometry.ensures.refusal (search rules) (bytes_all a.stripe.now c.slice_known-1.given)
