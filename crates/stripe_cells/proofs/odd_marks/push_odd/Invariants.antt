-- `push_odd`: each turn appends the offset of an odd place, or passes over it; a full list ends the
-- loop.
use Rattle.stripe_cells.proofs.OddPushLaws.{OddPushing}
use Rattle.stripe_cells.proofs.odd_marks.push_odd.Given as goal

abbrev pub invariant-loop-place : goal.invariant-loop-place
invariant-loop-place g l = OddPushing l.size l.marks l.initial.list l.from l.most l.list l.place
