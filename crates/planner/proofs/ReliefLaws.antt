-- The relief plan of a data disk in a record; what its refusals leave, and what a record that holds
-- it has as its steps.
use mathlib.Core.Path.{◌≡◌, ap, ◌∙◌}
use mathlib.Core.Bool.{true}
use mathlib.Core.Logic.{⊎_elim}
use Prim.Native.Nat.{ℕ, ◌+◌, ◌≤◌, ◌<◌}
use lib.Dec.{eqb, leb}
use borrow.Author.Tests.{leb-false, eqb-false}
use Rattle.mathematics.specs.Choice.{when, first_of}
use Rattle.mathematics.proofs.ChoiceLaws.{first_none, when_none}
use Rattle.mathematics.proofs.OrderLaws.{lt_or_le}
use Rattle.liberation.specs.Limits.{InArray}
use Rattle.liberation.specs.Sets.{plan_refusal}
use Rattle.liberation.specs.Judging.{accepted}
use Rattle.liberation.proofs.RefusalLaws.{plan_of_lem}
use Rattle.liberation.proofs.AcceptedLaws.{accepted_length}
use Rattle.liberation.proofs.PartPlans.{plan_accepted}
use Rattle.liberation.specs.ReliefPlan.Relief.{relief_step, relief_plan}
use Rattle.liberation.proofs.ReliefPlan.ProgressionPlan.{progression_parity}
use Rattle.liberation.proofs.ReliefPlan.ReliefPlan.{plans_relief}
use Rattle.planner.specs.StepRecords.{Holds, held}
use Rattle.planner.specs.declared.records.Steps.{Steps}
use Rattle.planner.proofs.HeldLaws.{held_is}
use Rattle.planner.specs.ReliefPlanSays.{relief_refusal}

-- none of the refusals
pub record Passed (p k f c : ℕ) : Type 0 where
  pub array : InArray p k
  pub disk : f ≤ k + 1
  pub data_disk : c < k
  pub other : c ≡ f → ⊥

pub passed : (p k f c : ℕ) → relief_refusal p k f c ≡ 0 → Passed p k f c
passed p k f c e =
    let w = first_none (plan_refusal p k f) (first_of (when (leb k c) 3) (when (eqb c f) 4)) e in
    let v = first_none (when (leb k c) 3) (when (eqb c f) 4) w.1 in
    let q = plan_of_lem p k f w.0 in
    record { array = q.0; disk = q.1; data_disk = leb-false k c (when_none (leb k c) 2 v.0); other = eqb-false c f (when_none (eqb c f) 3 v.1) }

-- the plan is accepted
pub relief_accepted : (p k f c : ℕ) → Passed p k f c → accepted p k f (relief_plan p k f c) ≡ true
relief_accepted p k f c w =
    ⊎_elim
    (λ l. (plans_relief p k f c w.array.width w.array.disks l w.data_disk w.other).is_accepted)
    (λ l. ap (accepted p k f) (progression_parity p k f (relief_step p f c) l) ∙ plan_accepted p k f w.array.width w.array.disks w.disk)
    (lt_or_le f k)

-- a record that holds it has it as its steps
pub relief_held : (p k f c : ℕ) (s : Steps) → Passed p k f c → Holds (relief_plan p k f c) s → held p s ≡ relief_plan p k f c
relief_held p k f c s w h = held_is p (relief_plan p k f c) s (accepted_length p k f (relief_plan p k f c) (relief_accepted p k f c w)) h
