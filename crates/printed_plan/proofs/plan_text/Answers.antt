-- `plan_text`: the plan's text, or the line of the refusal.
use mathlib.Core.Path.{sym, subst, ◌∙◌}
use mathlib.Core.List.{List}
use Prim.Native.Nat.{ℕ}
use Rattle.printed_plan.specs.Says.{TextIs}
use Rattle.printed_plan.proofs.PrintedLaws.{printed_plan, refusal_printed}
use Rattle.printed_plan.proofs.plan_text.Goals as goal

pub returns-in-Ok : goal.returns-in-Ok
returns-in-Ok c =
    let k = c.in-Ok in
    subst (λ (t : List ℕ). TextIs t c.from.result) (k.ensures.text ∙ sym (printed_plan c.args.input.now (sym k.ensures.refusal))) c.from.ensures

pub returns-in-Err : goal.returns-in-Err
returns-in-Err c =
    let k = c.in-Err in
    subst (λ (t : List ℕ). TextIs t c.from-in-Err.result) (c.refusal_line.ensures ∙ refusal_printed c.args.input.now k.refusal k.ensures.refusal) c.from-in-Err.ensures
