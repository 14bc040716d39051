-- `check_stripe`: a refusal, or whether the stripe is clean.
use Rattle.xor.proofs.SourceLaws.{bytes_all}
use Rattle.scrub.proofs.CheckLaws.{check_refused, check_done}
use Rattle.scrub.proofs.clean.check_stripe.Goals as goal

pub returns-in-Ok : goal.returns-in-Ok
returns-in-Ok c =
    let s = c.args.shape in
    check_done s.width s.disks s.cell_size c.args.stripe.now c.accepted.result c.in-Ok.clean c.in-Ok.ensures.refusal c.accepted.ensures c.in-Ok.ensures.clean (bytes_all c.args.stripe.now c.type_inv.stripe)

pub returns-in-Err : goal.returns-in-Err
returns-in-Err c =
    let s = c.args.shape in
    check_refused s.width s.disks s.cell_size c.args.stripe.now c.in-Err.refusal c.from.result c.in-Err.ensures.refusal c.from.ensures (bytes_all c.args.stripe.now c.type_inv.stripe)
