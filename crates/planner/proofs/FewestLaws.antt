-- A data disk's plan by any routes in a record, the one of two that reads fewer cells, and what the
-- record of the fewest plan promises, for P and Q too.
use mathlib.Core.Path.{◌≡◌, sym, ap, subst, ◌∙◌}
use mathlib.Core.Bool.{Bool, true}
use mathlib.Core.Logic.{⊎_elim}
use mathlib.Core.List.{List, []}
use Prim.Native.Nat.{ℕ, ◌≤◌, ◌<◌}
use native.Mathlib.Omega.{arith}
use lib.Dec.{eqb, ltb}
use lib.ListN.{length}
use borrow.Author.Tests.{lt-ltb, le-ltb}
use Rattle.mathematics.specs.Choice.{pick}
use Rattle.mathematics.proofs.ChoiceLaws.{pick_done}
use Rattle.mathematics.proofs.OrderLaws.{lt_or_le}
use Rattle.liberation.specs.Limits.{InArray}
use Rattle.liberation.specs.Sets.{plan_refusal}
use Rattle.liberation.specs.Plans.{Step, routes, word_from, route_word, read_count}
use Rattle.liberation.specs.Judging.{accepted}
use Rattle.liberation.proofs.Widths.{width_odd}
use Rattle.liberation.proofs.AcceptedLaws.{accepted_length}
use Rattle.liberation.proofs.PartLaws.{full_data, accepted_part}
use Rattle.liberation.proofs.RowSteps.{steps_of, steps_accepted}
use Rattle.liberation.specs.BalancedPlan.Balanced.{balanced_routes}
use Rattle.liberation.specs.ReliefPlan.Relief.{progression_routes}
use Rattle.liberation.specs.FewestPlan.Fewest.{fewest_step, fewer, fewest_routes, fewest_plan}
use Rattle.liberation.proofs.FewestPlan.FewestPlan.{fewer_first, fewer_second, fewest_data, fewest_parity}
use Rattle.refusals.proofs.AnswerLaws.{answers_as}
use Rattle.planner.specs.StepRecords.{Holds, held}
use Rattle.planner.specs.declared.records.Steps.{Steps}
use Rattle.planner.proofs.HeldLaws.{held_is}
use Rattle.planner.specs.declared.steps.Planned.{Planned}
use Rattle.planner.proofs.PlannedLaws.{held_as}
use Rattle.refusals.specs.declared.array.Array.{Array}
use Rattle.planner.specs.declared.Plan.{Plan}
use Rattle.planner.specs.PlanSays.{Finished, GivesPlan, PlanSays}
use Rattle.planner.specs.PlanStepsSays.{ByRoutes}
use Rattle.planner.specs.FewestPlanSays.{Routed, fewest_word, FewestSays}

-- the steps of any routes are accepted,
pub routes_accepted : (p k f : ℕ) (rs : List ℕ) → InArray p k → f < k → length rs ≡ p → accepted p k f (steps_of p f rs) ≡ true
routes_accepted p k f rs a h e =
    let lost : f < p = omega (arith, a.disks) in
    accepted_part p k a.disks f (omega arith) (steps_of p f rs) ∙ ap (λ (d : ℕ). accepted p p d (steps_of p f rs)) (full_data p k f h) ∙ steps_accepted p f (width_odd p a.width) lost rs e

-- and a record that holds them has them as its steps
pub routes_held : (p k f : ℕ) (rs : List ℕ) (s : Steps) → InArray p k → f < k → length rs ≡ p → Holds (steps_of p f rs) s → held p s ≡ steps_of p f rs
routes_held p k f rs s a h e q = held_is p (steps_of p f rs) s (accepted_length p k f (steps_of p f rs) (routes_accepted p k f rs a h e)) q

-- the plan with its reads counted
pub routed_is : (p k f : ℕ) (rs : List ℕ) (q : Planned) (r : Plan) → InArray p k → f < k → length rs ≡ p → ByRoutes p f rs q → Finished p k f q r → Routed p k f rs r
routed_is p k f rs q r a h e o d =
    record {
      answer = d.answer;
      steps = subst (λ (x : Steps). Holds (steps_of p f rs) x) (sym d.steps) o.steps;
      routes = d.routes ∙ o.routes;
      reads = d.reads ∙ ap (read_count p k f) (routes_held p k f rs q.steps a h e o.steps);
    }

-- the same routes by another name
pub routed_as : (p k f : ℕ) (us vs : List ℕ) (r : Plan) → us ≡ vs → Routed p k f us r → Routed p k f vs r
routed_as p k f us vs r e d = subst (λ (x : List ℕ). Routed p k f x r) e d

-- the same array by another name
pub routed_by : (a b : Array) (f : ℕ) (rs : List ℕ) (r : Plan) → b ≡ a → Routed b.width b.disks f rs r → Routed a.width a.disks f rs r
routed_by a b f rs r e d = subst (λ (x : Array). Routed x.width x.disks f rs r) e d

-- the one of two that reads fewer
pub routed_fewer : (p k f : ℕ) (us vs : List ℕ) (a b r : Plan) → Routed p k f us a → Routed p k f vs b → r ≡ pick (ltb b.reads a.reads) b a → Routed p k f (fewer p k f us vs) r
routed_fewer p k f us vs a b r u v e =
    ⊎_elim
    (λ l. routed_as p k f vs (fewer p k f us vs) r (fewer_second p k f us vs (omega (arith, u.reads, v.reads))) (subst (λ (x : Plan). Routed p k f vs x) (sym (e ∙ ap (λ (t : Bool). pick t b a) (lt-ltb b.reads a.reads l))) v))
    (λ l. routed_as p k f us (fewer p k f us vs) r (fewer_first p k f us vs (omega (arith, u.reads, v.reads))) (subst (λ (x : Plan). Routed p k f us x) (sym (e ∙ ap (λ (t : Bool). pick t b a) (le-ltb b.reads a.reads l))) u))
    (lt_or_le b.reads a.reads)

-- so of the three
pub routed_fewest : (p k f g : ℕ) (us vs ws : List ℕ) (a b c m r : Plan) → g ≡ fewest_step p k f → us ≡ progression_routes p f g → vs ≡ routes p f → ws ≡ balanced_routes p f → Routed p k f us a → Routed p k f vs b → Routed p k f ws c
    → m ≡ pick (ltb b.reads a.reads) b a → r ≡ pick (ltb c.reads m.reads) c m → Routed p k f (fewest_routes p k f) r
unfolding fewest_routes
routed_fewest p k f g us vs ws a b c m r eg eu ev ew ra rb rc em er =
    routed_fewer p k f (fewer p k f best (routes p f)) (balanced_routes p f) m c r
    (routed_fewer p k f best (routes p f) a b m (routed_as p k f us best a (eu ∙ ap (progression_routes p f) eg) ra) (routed_as p k f vs (routes p f) b ev rb) em)
    (routed_as p k f ws (balanced_routes p f) c ew rc) er
  where
    best : List ℕ
    best = progression_routes p f (fewest_step p k f)

-- an accepted call for a data disk
pub fewest_gives : (p k f : ℕ) (r : Plan) → plan_refusal p k f ≡ 0 → f < k → Routed p k f (fewest_routes p k f) r → FewestSays p k f r
fewest_gives p k f r z h d =
    let n = plan_refusal p k f in
    let same : fewest_plan p k f ≡ steps_of p f (fewest_routes p k f) = fewest_data p k f h in
    record {
      answer = answers_as 0 n r.answer (sym z) d.answer;
      steps = held_as (steps_of p f (fewest_routes p k f)) (pick (eqb n 0) (fewest_plan p k f) []) r.steps (sym same ∙ pick_done n (fewest_plan p k f) [] z) d.steps;
      routes = d.routes ∙ sym (ap (λ (b : Bool). pick b (word_from 0 (fewest_routes p k f)) (route_word p k f)) (lt-ltb f k h)) ∙ pick_done n (fewest_word p k f) 0 z;
      reads = d.reads ∙ sym (ap (read_count p k f) same) ∙ pick_done n (read_count p k f (fewest_plan p k f)) 0 z;
    }

-- P and Q are ours
pub fewest_ours : (p k f : ℕ) (r : Plan) → k ≤ f → PlanSays p k f r → FewestSays p k f r
fewest_ours p k f r h d =
    subst (λ (v : ℕ). GivesPlan p k f (plan_refusal p k f) (fewest_plan p k f) v r) (sym (ap (λ (b : Bool). pick b (word_from 0 (fewest_routes p k f)) (route_word p k f)) (le-ltb f k h)))
    (subst (λ (ss : List Step). GivesPlan p k f (plan_refusal p k f) ss (route_word p k f) r) (sym (fewest_parity p k f h)) d)
