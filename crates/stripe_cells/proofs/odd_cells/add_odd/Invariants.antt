-- `add_odd`: list after list. The invariant: what is in the cell, with the odd cells still to come, is
-- the XOR of all.
use Rattle.std.proofs.Common.{◌≡◌, ◌-◌, length}
use Rattle.stripe_cells.proofs.GatherLaws.{Gathering}
use Rattle.stripe_cells.proofs.odd_cells.add_odd.Given as goal

abbrev pub invariant-loop-next : goal.invariant-loop-next
invariant-loop-next l = (length l.stripe ≡ length l.initial.stripe) × Gathering l.size l.to l.marks l.initial.stripe l.from l.stripe l.next

abbrev pub decreases-loop-next : goal.decreases-loop-next
decreases-loop-next l = length l.marks - l.next
