-- `find_verdict`: a clean stripe; of a dirty one, the first disk that fits, or none.
use Rattle.scrub.proofs.ScrubRefusals.{verdict_clean, verdict_one, verdict_more}
use Rattle.scrub.proofs.find_verdict.Goals as goal

pub returns-then-is_clean-clause-verdict : goal.returns-then-is_clean-clause-verdict
returns-then-is_clean-clause-verdict c =
    let s = c.args.shape in
    let n = c.in_ok-geometry.ensures.numbers in
    verdict_clean s.width s.disks s.cell_size c.args.stripe.now c.is_clean.result (rw (n.0, n.1, n.2) at c.is_clean.ensures) c.if-is_clean.true

pub returns-in-Some-clause-verdict : goal.returns-in-Some-clause-verdict
returns-in-Some-clause-verdict c =
    let s = c.args.shape in
    let n = c.in_ok-geometry.ensures.numbers in
    let d = rw (n.0, n.1, n.2) at c.in-Some.ensures in
    verdict_one s.width s.disks s.cell_size c.args.stripe.now c.is_clean.result (rw (n.0, n.1, n.2) at c.is_clean.ensures) c.if-is_clean.false c.in-Some.disk d.1 d.0

pub returns-in-None-clause-verdict : goal.returns-in-None-clause-verdict
returns-in-None-clause-verdict c =
    let s = c.args.shape in
    let n = c.in_ok-geometry.ensures.numbers in
    verdict_more s.width s.disks s.cell_size c.args.stripe.now c.is_clean.result (rw (n.0, n.1, n.2) at c.is_clean.ensures) c.if-is_clean.false (rw (n.0, n.1, n.2) at c.in-None.ensures)
