-- `try_list`: a plan that the judge does not refuse is accepted, and one that it refuses leaves the
-- list unchanged.
use Rattle.std.proofs.Common.{◌≡◌, rules, refl, sym}
use Rattle.std.specs.Prelude.{Err}
use Rattle.judge.specs.Verdicts.{judged_of}
use Rattle.judge.proofs.AcceptLaws.{zero_accepts}
use Rattle.judge.proofs.FormRefusals.{after_step}
use Rattle.refusals.proofs.RefusalNumbers.{number_some}
use Rattle.host_plans.proofs.PlanListLaws.{list_passed}
use Rattle.host_plans.proofs.reads.try_list.Goals as goal

pub returns-in_err-judged_reads : goal.returns-in_err-judged_reads
returns-in_err-judged_reads c =
    let a = c.args in
    let z = sym c.in_ok-array.ensures.refusal in
    let w = list_passed a.width a.disks a.lost a.plan.now a.list.now z in
    let r = c.in_err-judged_reads.field-0.0 in
    let e : c.from_residual-in_err-judged_reads.result ≡ Err r = search rules in
    rw e (after_step a.width a.disks a.lost _ a.plan.now _ a.list.now (judged_of (Err r)) z w.form c.in_err-judged_reads.ensures (number_some r.refusal))

pub write_list-requires-clause-plan_value : goal.write_list-requires-clause-plan_value
write_list-requires-clause-plan_value c =
    let a = c.args in
    let n = c.in_ok-array.ensures.numbers in
    rw (n.0, n.1) (zero_accepts a.width a.disks a.lost a.plan.now _ c.in_ok-judged_reads.ensures refl).accepts
