-- `judge_text`: the bytes that are read go to the judge.
use mathlib.Core.Path.{◌∙◌}
use Rattle.plan_texts.proofs.JudgeTextLaws.{judges_text}
use Rattle.plan_texts.proofs.judged.judge_text.Goals as goal

pub returns-in-Ok : goal.returns-in-Ok
returns-in-Ok c =
    let a = c.args in
    judges_text a.width a.disks a.lost a.text.now c.as_slice.result.now c.judge_plan.result c.in-Ok.ensures.refusal (c.as_slice.ensures ∙ c.in-Ok.ensures.plan) c.judge_plan.ensures
