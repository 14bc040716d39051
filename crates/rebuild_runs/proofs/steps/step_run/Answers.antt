-- `step_run`: a refusal leaves the column; else the stripe is rebuilt into it and the record moves on
-- by one.
use Rattle.std.proofs.Common.{rules, ◌≡◌, true, arith}
use Rattle.mathematics.specs.Xor.{all_bytes}
use Rattle.xor.proofs.SourceLaws.{bytes_all}
use Rattle.rebuild_runs.specs.StepSays.{run_step_refusal}
use Rattle.rebuild_runs.proofs.StepRefusals.{step_passed}
use Rattle.rebuild_runs.proofs.steps.step_run.Goals as goal

pub returns-in_err-disk : goal.returns-in_err-disk
returns-in_err-disk c =
    let bytes : all_bytes c.args.stripe.now ≡ true = bytes_all c.args.stripe.now c.type_inv.stripe in
    search (rules, bytes)

pub moved_on-requires : goal.moved_on-requires
moved_on-requires c =
    let a = c.args in
    let none : run_step_refusal a.run a.which a.stripe.now a.column.now ≡ 0 = search rules in
    let q = step_passed a.run a.which a.stripe.now a.column.now none in
    record { next = q.1.1.1; skipped = omega (arith, q.1.0) }

pub returns : goal.returns
returns c =
    let bytes : all_bytes c.args.stripe.now ≡ true = bytes_all c.args.stripe.now c.type_inv.stripe in
    search (rules, bytes)
