-- `comes_to_one`: each turn tries one multiple. The invariant: 1 is among those still to come
-- exactly if it is among all.
use mathlib.Core.Path.{◌≡◌}
use Prim.Native.Nat.{◌-◌, ◌/◌, ◌<◌}
use Rattle.liberation.specs.TwoDisks.Pairs.{comes_to_one}
use Rattle.rebuild_two.proofs.data.comes_to_one.Given as goal

abbrev pub invariant-loop : goal.invariant-loop
invariant-loop l = (l.multiple < l.array.width) × (comes_to_one (l.end - l.counter) l.array.width l.gap l.multiple ≡ comes_to_one ((l.array.width - 1) / 2) l.array.width l.gap l.gap)
