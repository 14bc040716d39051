-- `scrub_stripe`: a refusal, or the verdict.
use Rattle.xor.proofs.SourceLaws.{bytes_all}
use Rattle.scrub.proofs.ScrubRefusals.{scrub_refused, scrub_done}
use Rattle.scrub.proofs.scrub_stripe.Goals as goal

pub returns-in-Ok : goal.returns-in-Ok
returns-in-Ok c =
    let s = c.args.shape in
    scrub_done s.width s.disks s.cell_size c.args.stripe.now (bytes_all c.args.stripe.now c.type_inv.stripe) c.in-Ok.verdict c.accepted.result c.number.result c.disk.result c.in-Ok.ensures.refusal c.accepted.ensures c.in-Ok.ensures.verdict c.number.ensures c.disk.ensures

pub returns-in-Err : goal.returns-in-Err
returns-in-Err c =
    let s = c.args.shape in
    scrub_refused s.width s.disks s.cell_size c.args.stripe.now (bytes_all c.args.stripe.now c.type_inv.stripe) c.in-Err.refusal c.from.result c.in-Err.ensures.refusal c.from.ensures
