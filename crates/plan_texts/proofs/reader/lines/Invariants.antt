-- `lines`: each turn reads a line and appends its step. The invariant: the lines so far are lines,
-- their steps are the plan's bytes, and the next line begins behind them.
use Rattle.plan_texts.proofs.LineLaws.{Halfway}
use Rattle.plan_texts.proofs.reader.lines.Given as goal

abbrev pub invariant-loop : goal.invariant-loop
invariant-loop l = Halfway l.text l.plan l.rest l.counter
