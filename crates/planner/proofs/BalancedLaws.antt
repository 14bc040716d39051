-- A record that holds the balanced plan has it as its steps, and they are accepted.
use mathlib.Core.Path.{◌≡◌, ap, ◌∙◌}
use mathlib.Core.Bool.{true}
use Prim.Native.Nat.{ℕ, ◌+◌, ◌≤◌}
use Rattle.liberation.specs.Limits.{InArray}
use Rattle.liberation.specs.Judging.{accepted}
use Rattle.liberation.proofs.AcceptedLaws.{accepted_length}
use Rattle.liberation.specs.BalancedPlan.Balanced.{balanced_plan}
use Rattle.liberation.proofs.BalancedPlan.BalancedPlan.{balanced_accepted}
use Rattle.planner.specs.StepRecords.{Holds, held}
use Rattle.planner.specs.declared.records.Steps.{Steps}
use Rattle.planner.proofs.HeldLaws.{held_is}

pub balanced_held : (p k f : ℕ) (s : Steps) → InArray p k → f ≤ k + 1 → Holds (balanced_plan p k f) s → held p s ≡ balanced_plan p k f
balanced_held p k f s a d h = held_is p (balanced_plan p k f) s (accepted_length p k f (balanced_plan p k f) (balanced_accepted p k f a.width a.disks d)) h

pub held_accepted : (p k f : ℕ) (s : Steps) → InArray p k → f ≤ k + 1 → Holds (balanced_plan p k f) s → accepted p k f (held p s) ≡ true
held_accepted p k f s a d h = ap (accepted p k f) (balanced_held p k f s a d h) ∙ balanced_accepted p k f a.width a.disks d
