-- The promise of a planner for accepted calls. For every number k of data disks.
use mathlib.Core.Path.{◌≡◌, sym, ap, subst, ◌∙◌}
use mathlib.Core.List.{List, []}
use Prim.Native.Nat.{ℕ}
use lib.Dec.{eqb}
use Rattle.mathematics.specs.Choice.{pick}
use Rattle.mathematics.proofs.ChoiceLaws.{pick_done}
use Rattle.liberation.specs.Plans.{Step, read_count}
use Rattle.refusals.proofs.AnswerLaws.{answers_as}
use Rattle.planner.specs.declared.records.Steps.{Steps}
use Rattle.planner.specs.StepRecords.{Holds, held}
use Rattle.planner.specs.declared.steps.Planned.{Planned}
use Rattle.planner.proofs.PlannedLaws.{held_as}
use Rattle.refusals.specs.declared.array.Array.{Array}
use Rattle.planner.specs.PlanStepsSays.{GivesSteps}
use Rattle.planner.specs.declared.Plan.{Plan}
use Rattle.planner.specs.PlanSays.{Finished, GivesPlan}

-- an accepted call
pub plan_gives : (p k f n : ℕ) (ss : List Step) (w : ℕ) (r : Plan) (q : Planned) → n ≡ 0 → Holds ss q.steps → q.routes ≡ w → held p q.steps ≡ ss → Finished p k f q r → GivesPlan p k f n ss w r
plan_gives p k f n ss w r q z h v e d =
    record {
      answer = answers_as 0 n r.answer (sym z) d.answer;
      steps = held_as ss (pick (eqb n 0) ss []) r.steps (pick_done n ss [] z) (subst (λ (x : Steps). Holds ss x) (sym d.steps) h);
      routes = d.routes ∙ v ∙ pick_done n w 0 z;
      reads = d.reads ∙ ap (read_count p k f) e ∙ pick_done n (read_count p k f ss) 0 z;
    }

-- the same by the array of the call
pub array_gives : (a : Array) (p k f n : ℕ) (ss : ℕ → ℕ → List Step) (w : ℕ → ℕ → ℕ) (r : Plan) (q : Planned) → a.width ≡ p → a.disks ≡ k → n ≡ 0 → GivesSteps (ss a.width a.disks) (w a.width a.disks) q → held a.width q.steps ≡ ss a.width a.disks → Finished a.width a.disks f q r → GivesPlan p k f n (ss p k) (w p k) r
array_gives a p k f n ss w r q e g z o h d = rw (sym e, sym g) (plan_gives a.width a.disks f n (ss a.width a.disks) (w a.width a.disks) r q z o.steps o.routes h d)
