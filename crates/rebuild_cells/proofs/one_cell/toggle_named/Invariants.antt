-- `toggle_named`: each turn toggles for a set. The invariant: the sets still to come, toggled in
-- the marks as they are, give what all give in the marks as they were.
use mathlib.Core.Path.{◌≡◌}
use Prim.Native.Nat.{◌*◌}
use Rattle.rebuild_cells.specs.Theory.Mending.{named_to}
use Rattle.stripe_cells.specs.Toggled.{toggled_all}
use Rattle.rebuild_cells.proofs.one_cell.toggle_named.Given as goal

abbrev pub invariant-loop-number : goal.invariant-loop-number
invariant-loop-number l = toggled_all (named_to l.number l.array.width l.array.disks l.word) l.marks ≡ toggled_all (named_to (2 * l.array.width) l.array.width l.array.disks l.word) l.initial.marks
