-- `lines`: each turn reads a line and appends its step. The invariant: the lines so far are lines,
-- their steps are the plan's bytes, and the next line begins behind them.
use mathlib.Core.Path.{ap, subst}
use Prim.Native.Nat.{ℕ}
use native.Mathlib.Omega.{arith}
use lib.ListN.{length}
use Rattle.std.specs.Prelude.{Some}
use Rattle.std.proofs.Common.{rules}
use Rattle.plan_texts.specs.Form.Reading.{step_bytes}
use Rattle.plan_texts.specs.ReaderSays.{LinesRead}
use Rattle.plan_texts.proofs.LineLaws.{halfway_start, halfway_long, halfway_turn, halfway_bad, halfway_end}
use Rattle.plan_texts.proofs.reader.lines.Goals as goal

pub loop-init : goal.loop-init
loop-init c = rw c.new-plan.ensures (halfway_start c.args.text.now)

pub returns-in_err-step : goal.returns-in_err-step
returns-in_err-step c = rw c.from_residual.ensures (halfway_bad c.loop.invariant c.args.width c.loop-test.true c.in_err-step.ensures)

pub extend_from_slice-requires : goal.extend_from_slice-requires
unfolding step_bytes
extend_from_slice-requires c = (omega arith, omega (arith, c.requires, halfway_long c.loop.invariant, ap length c.in_ok-step.ensures.1.0, c.loop-test.true))

pub loop-preserved : goal.loop-preserved
loop-preserved c = rw c.extend_from_slice.ensures (halfway_turn c.loop.invariant c.in_ok-step.ensures.0 c.in_ok-step.ensures.1.0 c.in_ok-step.ensures.1.1)

pub returns-then-is_empty : goal.returns-then-is_empty
returns-then-is_empty c = subst (λ (n : ℕ). LinesRead n c.args.text.now (Some c.loop.plan)) (search rules) (halfway_end c.loop.invariant (search rules))
