-- `number`: the digits at the front, their value, and what follows them.
use mathlib.Core.Bool.{true, false}
use native.Mathlib.Omega.{arith}
use Rattle.std.proofs.Common.{rules}
use Rattle.plan_texts.proofs.ReadLoops.{digits_counted, digits_fit, no_number, number_tested, number_value, number_rest}
use Rattle.plan_texts.proofs.numbers.number.Goals as goal

pub split_at-requires : goal.split_at-requires
split_at-requires c = omega (arith, c.digit_count.ensures, digits_counted c.args.text.now, digits_fit c.args.text.now)

pub returns-then-is_empty : goal.returns-then-is_empty
returns-then-is_empty c = no_number c.args.text.now c.split_at.result.0.now c.digit_count.result c.digit_count.ensures c.split_at.ensures.front (search rules)

pub returns-in_err-value_of : goal.returns-in_err-value_of
returns-in_err-value_of c =
    rw c.from_residual.ensures (number_tested c.args.text.now c.split_at.result.0.now c.digit_count.result c.digit_count.ensures c.split_at.ensures.front false (search rules) c.in_err-value_of.ensures)

pub returns : goal.returns
returns c =
    let t = c.args.text.now in
    let ds = c.split_at.result.0.now in
    let n = c.digit_count.result in (
      number_tested t ds n c.digit_count.ensures c.split_at.ensures.front true (search rules) c.in_ok-value_of.ensures.0,
      (
        number_value t ds n c.digit_count.ensures c.split_at.ensures.front c.in_ok-value_of.field-0 c.in_ok-value_of.ensures.1,
        number_rest t ds n c.digit_count.ensures c.split_at.ensures.front _ c.split_at.ensures.back,
      ),
    )
