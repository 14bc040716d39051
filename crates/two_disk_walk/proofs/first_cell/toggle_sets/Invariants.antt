-- `toggle_sets`: each turn toggles for the two sets of a row. The invariant: the rows still to
-- come, toggled in the marks as they are, give what all rows give in the marks as they were.
use mathlib.Core.Path.{◌≡◌}
use Prim.Native.Nat.{◌-◌, ◌<◌}
use lib.ListN.{length}
use Rattle.two_disk_walk.proofs.ToggleLaws.{rows_rest}
use Rattle.two_disk_walk.proofs.first_cell.toggle_sets.Given as goal

abbrev pub invariant-loop : goal.invariant-loop
invariant-loop l = (l.row < l.array.width) × (length l.marks ≡ length l.initial.marks) × (rows_rest l.array.width l.array.disks l.x (l.end - l.counter) l.row l.marks ≡ rows_rest l.array.width l.array.disks l.x l.array.width l.initial.row l.initial.marks)
