-- `try_plan_text`: refusal 12 without the form, else the planner's, else the plan's text.
use mathlib.Core.Path.{sym}
use Rattle.std.proofs.lemmas.Result.{err_from_is_err_and}
use Rattle.printed_plan.proofs.PrintedLaws.{no_form_refusal, numbers_refusal}
use Rattle.printed_plan.proofs.try_plan_text.Goals as goal

pub returns-in_default-clause-refusal : goal.returns-in_default-clause-refusal
returns-in_default-clause-refusal c = sym (no_form_refusal c.args.input.now c.in_default.ensures)

pub returns-in_err-array-clause-refusal : goal.returns-in_err-array-clause-refusal
returns-in_err-array-clause-refusal c =
    let n = c.in-Some in
    let p = err_from_is_err_and c.from_residual.result c.from_residual.ensures.1 in
    rw (p.1, p.2) (numbers_refusal c.args.input.now n.width n.disk _ n.ensures.0 n.ensures.1 n.ensures.2 c.in_err-array.ensures.refusal)

pub returns-clause-refusal : goal.returns-clause-refusal
returns-clause-refusal c =
    let n = c.in-Some in
    numbers_refusal c.args.input.now n.width n.disk 0 n.ensures.0 n.ensures.1 n.ensures.2 c.in_ok-array.ensures.refusal
