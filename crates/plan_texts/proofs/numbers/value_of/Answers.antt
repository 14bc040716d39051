-- `value_of`: digit by digit. The invariant: the value is that of the digits so far.
use mathlib.Core.Path.{refl, ap, ◌∙◌}
use native.Mathlib.Omega.{arith}
use borrow.Author.Tests.{le-leb}
use lib.Seq.{take_all}
use Rattle.plan_texts.specs.Form.Reading.{value_from}
use Rattle.plan_texts.proofs.ReadLoops.{value_next, value_large}
use Rattle.plan_texts.proofs.numbers.value_of.Goals as goal

pub loop-digit-init : goal.loop-digit-init
unfolding value_from
loop-digit-init c = (omega arith, refl)

pub returns-in_err-checked_mul : goal.returns-in_err-checked_mul
returns-in_err-checked_mul c =
    rw c.from_residual.ensures (value_large c.args.digits.now c.loop-digit.digit-index c.loop-digit-test.true (omega (arith, c.in_err-checked_mul.ensures, c.loop-digit.invariant.1)))

pub returns-in_err-value : goal.returns-in_err-value
returns-in_err-value c =
    rw c.from_residual-in_err-value.ensures (value_large c.args.digits.now c.loop-digit.digit-index c.loop-digit-test.true (omega (arith, c.in_err-value.ensures, c.in_ok-checked_mul.ensures, c.saturating_sub.ensures, c.loop-digit.invariant.1)))

pub loop-digit-preserved : goal.loop-digit-preserved
loop-digit-preserved c = (omega (arith, c.in_ok-value.ensures), omega (arith, c.in_ok-value.ensures, c.in_ok-checked_mul.ensures, c.saturating_sub.ensures, c.loop-digit.invariant.1, value_next c.args.digits.now c.loop-digit.digit-index c.loop-digit-test.true))

pub returns : goal.returns
returns c =
    let e = c.loop-digit.invariant.1 ∙ ap (value_from 0) (take_all c.loop-digit.digit-index c.args.digits.now (omega arith)) in
    (le-leb (value_from 0 c.args.digits.now) 255 (omega (arith, c.loop-digit.invariant.0, e)), e)
