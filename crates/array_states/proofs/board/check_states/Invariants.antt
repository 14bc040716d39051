-- `check_states`: the records so far are within their limits, so the rest of the list decides.
use Rattle.std.proofs.Common.{◌≡◌, drop}
use Rattle.array_states.specs.Reports.{list_refusal}
use Rattle.array_states.proofs.board.check_states.Given as goal

abbrev pub invariant-loop-state : goal.invariant-loop-state
invariant-loop-state l = list_refusal l.list ≡ list_refusal (drop l.state-index l.list)
