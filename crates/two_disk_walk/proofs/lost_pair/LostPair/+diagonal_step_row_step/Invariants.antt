-- `diagonal_step` and `row_step` call each other, and the number of steps left falls by one at each
-- call.
use Rattle.two_disk_walk.proofs.lost_pair.LostPair.+diagonal_step_row_step.Given as goal

abbrev pub decreases-diagonal_step : goal.decreases-diagonal_step
decreases-diagonal_step l = l.left

abbrev pub decreases-row_step : goal.decreases-row_step
decreases-row_step l = l.left
