-- `plain_form`: step by step. The invariant: the text is the plain form of the steps so far.
use mathlib.Core.Path.{◌≡◌}
use Rattle.liberation.specs.Judging.{steps_in}
use Rattle.plan_texts.specs.Form.Plain.{plain}
use Rattle.plan_texts.proofs.writer.plain_form.Given as goal

abbrev pub invariant-loop-row : goal.invariant-loop-row
invariant-loop-row l = l.text ≡ plain (steps_in l.row-index l.plan)
