-- `try_rebuild`: a plan that the judge does not refuse is accepted, and followed.
use Rattle.std.proofs.Common.{◌≡◌, rules, refl, sym}
use Rattle.std.specs.Prelude.{Err}
use Rattle.xor.proofs.SourceLaws.{bytes_all}
use Rattle.judge.specs.Verdicts.{judged_of}
use Rattle.judge.proofs.AcceptLaws.{zero_accepts}
use Rattle.judge.proofs.FormRefusals.{after_step}
use Rattle.refusals.proofs.RefusalNumbers.{number_some}
use Rattle.host_plans.proofs.ByPlanLaws.{passed}
use Rattle.host_plans.proofs.rebuild.try_rebuild.Goals as goal

pub returns-in_err-disk : goal.returns-in_err-disk
returns-in_err-disk c = record { decides = search rules; bytes = bytes_all c.args.stripe.now c.type_inv.stripe }

pub returns-in_err-judged_reads : goal.returns-in_err-judged_reads
returns-in_err-judged_reads c =
    let a = c.args in
    let s = a.shape in
    let z = sym c.in_ok-disk.ensures.refusal in
    let w = passed s.width s.disks s.cell_size a.lost a.plan.now a.stripe.now a.column.now z in
    let r = c.in_err-judged_reads.field-0.0 in
    let e : c.from_residual-in_err-judged_reads.result ≡ Err r = search rules in
    record {
      decides = rw e (after_step s.width s.disks a.lost _ a.plan.now _ a.column.now (judged_of (Err r)) z w.form c.in_err-judged_reads.ensures (number_some r.refusal));
      bytes = bytes_all a.stripe.now c.type_inv.stripe;
    }

pub plan_column-requires-clause-plan_value : goal.plan_column-requires-clause-plan_value
plan_column-requires-clause-plan_value c =
    let a = c.args in
    let n = c.in_ok-disk.ensures.numbers in
    rw (n.0, n.1, n.3) (zero_accepts a.shape.width a.shape.disks a.lost a.plan.now _ c.in_ok-judged_reads.ensures refl).accepts

pub returns : goal.returns
returns c = record { decides = search rules; bytes = bytes_all c.args.stripe.now c.type_inv.stripe }
