-- The steps of a record: where it has each, and those of a record that holds p steps.
use mathlib.Core.Path.{◌≡◌, ◌∙◌}
use mathlib.Core.Bool.{true}
use mathlib.Core.List.{List, ◌∷◌}
use Prim.Native.Nat.{ℕ, suc, ◌<◌}
use native.Mathlib.Omega.{arith}
use lib.ListN.{length, get_or, drop}
use Rattle.liberation.specs.Plans.{Step, step}
use Rattle.liberation.specs.Records.{recorded}
use Rattle.liberation.specs.Judging.{accepted}
use Rattle.liberation.proofs.AcceptedLaws.{Passed}
use Rattle.liberation.proofs.RecordLaws.{recorded_from, recorded_at, accepted_passed}
use Rattle.planner.specs.declared.records.Steps.{Steps}
use Rattle.planner.specs.StepRecords.{Holds, held}

pub held_is : (p : ℕ) (ss : List Step) (s : Steps) → length ss ≡ p → Holds ss s → held p s ≡ ss
held_is p ss s e h = (λ j. recorded p 0 (h.rows j) (h.kinds j) (h.numbers j)) ∙ recorded_from p 0 ss (omega arith)

-- step i of the record
abbrev pub step_at : Steps → ℕ → Step
step_at s i = step (get_or s.rows i 0) (get_or s.kinds i 0) (get_or s.numbers i 0)

pub held_at : (p i : ℕ) (s : Steps) → i < p → drop i (held p s) ≡ step_at s i ∷ drop (suc i) (held p s)
held_at p i s h = recorded_at p 0 i i s.rows s.kinds s.numbers (omega arith) h

-- a step of an accepted plan passes
pub held_passed : (p k f i : ℕ) (s : Steps) → accepted p k f (held p s) ≡ true → i < p → (ds : List ℕ) × Passed p k f ds (step_at s i)
held_passed p k f i s ok h = accepted_passed p k f i (held p s) (step_at s i) ok (held_at p i s h) h
