-- `next_step`: a step that is out of range is refused by 6, any other by the tests.
use Rattle.std.proofs.Common.{◌≡◌, rules, ◌∙◌}
use Rattle.refusals.specs.Refused.{refused}
use Rattle.judge.proofs.StepRefusals.{refusal_6}
use Rattle.judge.proofs.one_step.next_step.Goals as goal

pub returns-in_err-step-clause-refusal : goal.returns-in_err-step-clause-refusal
returns-in_err-step-clause-refusal c =
    let e : refused c.from_residual.result ≡ 6 = search rules in
    λ ds d. e ∙ refusal_6 _ _ _ ds _ c.in_err-step.ensures.1
