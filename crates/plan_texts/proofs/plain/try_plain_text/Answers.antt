-- `try_plain_text`: the bytes that are read of the text are written as its steps.
use mathlib.Core.Path.{ap, ◌∙◌}
use Prim.Native.Nat.{ℕ}
use Rattle.plan_texts.specs.Form.Reading.{steps_read, step_bytes}
use Rattle.plan_texts.specs.JudgeTextSays.{text_refusal}
use Rattle.plan_texts.proofs.FileLaws.{text_ready, text_written}
use Rattle.plan_texts.proofs.plain.try_plain_text.Goals as goal

pub write_steps-requires : goal.write_steps-requires
write_steps-requires c =
    let a = c.args in
    text_ready a.width a.disks a.lost a.text.now a.out.now c.as_slice.result.now c.in_ok-array.ensures.refusal
    (c.as_slice.ensures ∙ c.in_ok-plan.ensures.plan ∙ ap (λ (n : ℕ). step_bytes (steps_read n a.text.now)) c.in_ok-array.ensures.array)

pub returns : goal.returns
returns c =
    let a = c.args in
    text_written a.width a.disks a.lost a.text.now a.out.now c.as_slice.result.now c.in_ok-array.ensures.refusal
    (c.as_slice.ensures ∙ c.in_ok-plan.ensures.plan ∙ ap (λ (n : ℕ). step_bytes (steps_read n a.text.now)) c.in_ok-array.ensures.array)
    c.write_steps.new.out _ (c.in_ok-plan.ensures.refusal ∙ ap (λ (n : ℕ). text_refusal n a.text.now) c.in_ok-array.ensures.array) c.write_steps.ensures
