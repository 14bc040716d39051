-- `encode_stripe`: a refusal leaves the stripe as it was; else P and Q are written.
use borrow.Author.Rules.{rules}
use Rattle.xor.proofs.SourceLaws.{bytes_all}
use Rattle.encode.proofs.EncodeLaws.{encode_refused, encode_done}
use Rattle.encode.proofs.encode_stripe.Goals as goal

pub returns-in_err-geometry : goal.returns-in_err-geometry
returns-in_err-geometry c =
    let a = c.args in
    let s = a.shape in
    encode_refused s.width s.disks s.cell_size a.stripe.now c.from_residual.result c.from_residual.ensures.0 (search rules) (bytes_all a.stripe.now c.type_inv.stripe)

pub returns : goal.returns
returns c =
    let a = c.args in
    let s = a.shape in
    encode_done s.width s.disks s.cell_size c.in_ok-geometry.geometry a.stripe.now c.write_parity.new.stripe c.in_ok-geometry.ensures.numbers c.in_ok-geometry.ensures.refusal c.write_parity.ensures (bytes_all a.stripe.now (search rules))
