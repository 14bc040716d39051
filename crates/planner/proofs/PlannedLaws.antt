-- Plans in a record: that of a data disk by the routes of any rule, and for P and Q ours; our plan
-- by the kind of disk; and the promise of the call for accepted and refused calls. For every number
-- k of data disks.
use mathlib.Core.Path.{◌≡◌, sym, ap, ap₂, subst, ◌∙◌}
use mathlib.Core.Bool.{Bool, true}
use mathlib.Core.List.{List, []}
use Prim.Native.Nat.{ℕ, ◌+◌, ◌-◌, ◌^◌, ◌≤◌, ◌<◌}
use native.Mathlib.Omega.{arith}
use lib.Dec.{eqb}
use borrow.Author.Tests.{eq-eqb, ne_eqb, lt-ltb, le-ltb}
use Rattle.mathematics.specs.Choice.{pick}
use Rattle.mathematics.proofs.ChoiceLaws.{pick_done}
use Rattle.liberation.specs.Limits.{InArray}
use Rattle.liberation.specs.Sets.{plan_refusal}
use Rattle.liberation.specs.Plans.{Step, routes, word_from, data_plan, all_of, plan_of, route_word}
use Rattle.liberation.specs.Judging.{accepted}
use Rattle.liberation.proofs.PartPlans.{plan_accepted}
use Rattle.liberation.proofs.RowSteps.{steps_of}
use Rattle.liberation.proofs.RecordLaws.{plan_length}
use Rattle.refusals.specs.declared.array.Array.{Array}
use Rattle.planner.specs.declared.routes.Routes.{Routes}
use Rattle.planner.specs.RouteRecords.{rows_in}
use Rattle.planner.specs.declared.records.Steps.{Steps}
use Rattle.planner.specs.StepRecords.{Holds, held}
use Rattle.planner.proofs.HeldLaws.{held_is}
use Rattle.planner.specs.declared.steps.Planned.{Planned}
use Rattle.planner.specs.PlanStepsSays.{GivesSteps, ByRoutes, word_by, OurPlan, planned_steps}

-- held steps, under another name
pub held_as : (ss ts : List Step) (s : Steps) → ss ≡ ts → Holds ss s → Holds ts s
held_as ss ts s e h = subst (λ (x : List Step). Holds x s) e h

-- A rule gives the routes rs of a data disk: its plan is made of them,
pub data_given : (a : Array) (f : ℕ) (rs : List ℕ) (ss : List Step) (t : Routes) (r : Planned) → f < a.disks → (t.array ≡ a) × (rows_in t ≡ rs) → ss ≡ steps_of a.width f rs → ByRoutes t.array.width f (rows_in t) r → GivesSteps ss (word_by a.width a.disks f rs) r
data_given a f rs ss t r l q e o =
    record {
      steps = held_as (steps_of t.array.width f (rows_in t)) ss r.steps (ap₂ (λ (x : Array) (us : List ℕ). steps_of x.width f us) q.0 q.1 ∙ sym e) o.steps;
      routes = o.routes ∙ ap (word_from 0) q.1 ∙ sym (ap (λ (b : Bool). pick b (word_from 0 rs) (route_word a.width a.disks f)) (lt-ltb f a.disks l));
    }

-- and for P and Q it is ours.
pub parity_given : (p k f : ℕ) (rs : List ℕ) (ss : List Step) (r : Planned) → k ≤ f → ss ≡ plan_of p k f → OurPlan p k f r → GivesSteps ss (word_by p k f rs) r
parity_given p k f rs ss r l e o =
    record {
      steps = held_as (plan_of p k f) ss r.steps (sym e) o.steps;
      routes = o.routes ∙ sym (ap (λ (b : Bool). pick b (word_from 0 rs) (route_word p k f)) (le-ltb f k l));
    }

-- our rule: the word by its routes is that of our plan
pub ours_given : (p k f : ℕ) (r : Planned) → GivesSteps (plan_of p k f) (word_by p k f (routes p f)) r → f < k → OurPlan p k f r
unfolding route_word
ours_given p k f r o l =
    record {
      steps = o.steps;
      routes = o.routes ∙ ap (λ (b : Bool). pick b (word_from 0 (routes p f)) (route_word p k f)) (lt-ltb f k l) ∙ sym (ap (λ (b : Bool). pick b (word_from 0 (routes p f)) (pick (eqb f k) 0 (2 ^ p - 1))) (lt-ltb f k l));
    }

-- a parity disk takes all sets of its kind
pub parity_steps : (p k f n : ℕ) (s : Steps) → k ≤ f → f - k ≡ n → Holds (all_of p n 0) s → Holds (plan_of p k f) s
unfolding plan_of
parity_steps p k f n s h e q =
    held_as (all_of p n 0) (plan_of p k f) s (ap (λ (i : ℕ). all_of p i 0) (sym e) ∙ sym (ap (λ (b : Bool). pick b (data_plan p f) (all_of p (f - k) 0)) (le-ltb f k h))) q

pub row_parity_word : (p k f : ℕ) → f ≡ k → 0 ≡ route_word p k f
unfolding route_word
row_parity_word p k f e = sym (ap₂ (λ (a b : Bool). pick a (word_from 0 (routes p f)) (pick b 0 (2 ^ p - 1))) (le-ltb f k (omega arith)) (eq-eqb f k e))

pub diagonal_parity_word : (p k f : ℕ) → k ≤ f → (f ≡ k → ⊥) → 2 ^ p - 1 ≡ route_word p k f
unfolding route_word
diagonal_parity_word p k f h n = sym (ap₂ (λ (a b : Bool). pick a (word_from 0 (routes p f)) (pick b 0 (2 ^ p - 1))) (le-ltb f k h) (ne_eqb f k n))

-- a record that holds our plan has it as its steps
pub ours_held : (p k f : ℕ) (s : Steps) → InArray p k → f ≤ k + 1 → Holds (plan_of p k f) s → held p s ≡ plan_of p k f
ours_held p k f s a d h = held_is p (plan_of p k f) s (plan_length p k f a.width a.disks d) h

-- and they are accepted
pub ours_accepted : (p k f : ℕ) (s : Steps) → InArray p k → f ≤ k + 1 → Holds (plan_of p k f) s → accepted p k f (held p s) ≡ true
ours_accepted p k f s a d h = ap (accepted p k f) (ours_held p k f s a d h) ∙ plan_accepted p k f a.width a.disks d

pub planned_is : (p k f : ℕ) → plan_refusal p k f ≡ 0 → planned_steps p k f ≡ plan_of p k f
planned_is p k f z = sym (pick_done (plan_refusal p k f) (plan_of p k f) [] z)
