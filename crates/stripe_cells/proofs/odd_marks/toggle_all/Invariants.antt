-- `toggle_all`: each turn toggles the mark of the next place. The invariant: the places still to
-- come, toggled in the marks as they are, give what all give in the marks as they were.
use Rattle.std.proofs.Common.{◌≡◌, length, drop}
use Rattle.stripe_cells.specs.Toggled.{toggled_all}
use Rattle.stripe_cells.proofs.odd_marks.toggle_all.Given as goal

abbrev pub invariant-loop-place : goal.invariant-loop-place
invariant-loop-place l = (length l.marks ≡ length l.initial.marks) × (toggled_all (drop l.place-index l.places) l.marks ≡ toggled_all l.places l.initial.marks)
