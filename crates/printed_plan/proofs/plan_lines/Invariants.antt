-- `plan_lines`: each turn marks the set of the next step and appends its line. The invariant is
-- LineLaws' `Printing`.
use Rattle.liberation.specs.Plans.{plan_of}
use Rattle.printed_plan.proofs.LineLaws.{Printing}
use Rattle.printed_plan.proofs.plan_lines.Given as goal

abbrev pub invariant-loop-index : goal.invariant-loop-index
invariant-loop-index l = Printing l.array.width l.disk (plan_of l.array.width l.array.width l.disk) l.text l.marks l.index
