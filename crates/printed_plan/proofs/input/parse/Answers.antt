-- `parse`: two numbers below 100, and the input for them compared with the text.
use mathlib.Core.Path.{◌∙◌}
use mathlib.Core.Bool.{true, false}
use native.Mathlib.Omega.{arith}
use Rattle.printed_plan.proofs.FormLaws.{no_form_first, no_form_second, form_compared}
use Rattle.printed_plan.proofs.input.parse.Goals.{then-first-ge-NUMBER_END-via-then-first-ge-NUMBER_END, then-first-ge-NUMBER_END-via-else-first-ge-NUMBER_END+then-second-ge-NUMBER_END}
use Rattle.printed_plan.proofs.input.parse.Goals as goal

pub returns-then-first-ge-NUMBER_END : goal.returns-then-first-ge-NUMBER_END
returns-then-first-ge-NUMBER_END c =
    elim c.then-first-ge-NUMBER_END.branch [
      | then-first-ge-NUMBER_END-via-then-first-ge-NUMBER_END w ↦ no_form_first c.args.text.now (omega (arith, c.value-first.ensures, w.if-first-ge-NUMBER_END.true))
      | then-first-ge-NUMBER_END-via-else-first-ge-NUMBER_END+then-second-ge-NUMBER_END w ↦ no_form_second c.args.text.now (omega (arith, c.second_value-second.ensures, w.if-second-ge-NUMBER_END.true))
    ]

pub returns-then-eq : goal.returns-then-eq
returns-then-eq c =
    let f = c.value-first in
    let s = c.second_value-second in (
      form_compared c.args.text.now c.as_slice.result.now f.result s.result true f.ensures s.ensures c.if-first-ge-NUMBER_END.false c.if-second-ge-NUMBER_END.false (c.as_slice.ensures ∙ c.input_of-expected.ensures) c.if-eq.ensures,
      f.ensures,
      s.ensures,
    )

pub returns-else-eq : goal.returns-else-eq
returns-else-eq c =
    let f = c.value-first in
    let s = c.second_value-second in
    form_compared c.args.text.now c.as_slice.result.now f.result s.result false f.ensures s.ensures c.if-first-ge-NUMBER_END.false c.if-second-ge-NUMBER_END.false (c.as_slice.ensures ∙ c.input_of-expected.ensures) c.if-eq.ensures
