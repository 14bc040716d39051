-- The fewest plan as its call gives it, put before the judge and beside the other plans: whatever
-- the calls return, as long as they keep their promises.
use mathlib.Core.Path.{◌≡◌, refl, ap, ◌∙◌}
use mathlib.Core.Bool.{Bool, true}
use mathlib.Core.Logic.{◌⊎◌, inl, inr, ⊎_elim}
use mathlib.Core.List.{List}
use Prim.Native.Nat.{ℕ, ◌+◌, ◌-◌, ◌*◌, ◌≤◌, ◌<◌}
use native.Mathlib.Omega.{arith}
use borrow.Author.Tests.{le-ltb}
use Rattle.mathematics.specs.Choice.{pick}
use Rattle.mathematics.proofs.OrderLaws.{lt_or_le}
use Rattle.liberation.specs.Limits.{InArray}
use Rattle.liberation.specs.Sets.{plan_refusal}
use Rattle.liberation.specs.Plans.{word_from, route_word, plan_of, read_count}
use Rattle.liberation.specs.Judging.{accepted, steps_in}
use Rattle.liberation.proofs.RefusalLaws.{plan_of_lem}
use Rattle.liberation.proofs.PartPlans.{plan_accepted}
use Rattle.liberation.specs.BalancedPlan.Balanced.{balanced_plan}
use Rattle.liberation.specs.ReliefPlan.Relief.{relief_plan}
use Rattle.liberation.specs.FewestPlan.Fewest.{fewest_routes, fewest_plan, Fewest}
use Rattle.liberation.proofs.FewestPlan.FewestPlan.{fewest_parity, plans_fewest}
use Rattle.planner.specs.declared.Plan.{Plan}
use Rattle.planner.specs.PlanSays.{PlanSays}
use Rattle.planner.proofs.FormLaws.{form_of}
use Rattle.planner.specs.BalancedPlanSays.{BalancedSays}
use Rattle.planner.specs.ReliefPlanSays.{relief_refusal, ReliefSays}
use Rattle.planner.proofs.ReliefLaws.{passed as relieves}
use Rattle.planner.specs.FewestPlanSays.{FewestSays}
use Rattle.judge.specs.declared.all_steps.Judged.{Judged}
use Rattle.judge.specs.JudgeSays.{JudgeSays}
use Rattle.judge.proofs.AcceptLaws.{zero_accepts, zero_counts}
use Rattle.guarantees.proofs.Plans.{OwnAccepted}
use Rattle.guarantees.proofs.FurtherPlans.Plans.{given_none, given_reads, given_form, given_judged, given_as}

-- the plan is accepted, whatever disk is lost
any_accepted : (p k f : ℕ) → InArray p k → f ≤ k + 1 → accepted p k f (fewest_plan p k f) ≡ true
any_accepted p k f a h =
    ⊎_elim
    (λ l. (plans_fewest p k f a.width a.disks l).is_accepted)
    (λ l. ap (accepted p k f) (fewest_parity p k f l) ∙ plan_accepted p k f a.width a.disks h)
    (lt_or_le f k)

-- For a lost P or Q `fewest_plan` gives what `plan_disk` gives, refused or not.
pub fewest_parity_ours : (p k f : ℕ) (r : Plan) → k ≤ f → FewestSays p k f r → PlanSays p k f r
fewest_parity_ours p k f r h d = given_as p k f _ _ _ _ _ _ r refl (fewest_parity p k f h) (ap (λ (b : Bool). pick b (word_from 0 (fewest_routes p k f)) (route_word p k f)) (le-ltb f k h)) d

-- an accepted call
module _ (p k f : ℕ) (r : Plan) (d : FewestSays p k f r) (z : r.answer.refusal ≡ 0) where
  within : InArray p k × (f ≤ k + 1)
  within = plan_of_lem p k f (given_none p k f (plan_refusal p k f) _ _ r d z)

  reads_are : r.reads ≡ read_count p k f (fewest_plan p k f)
  reads_are = given_reads p k f (plan_refusal p k f) (fewest_plan p k f) _ r d z

  pub fewest_form : steps_in p (form_of p r) ≡ fewest_plan p k f
  fewest_form = given_form p k f (plan_refusal p k f) (fewest_plan p k f) _ r d z (any_accepted p k f within.0 within.1)

  -- The judge accepts the steps of `fewest_plan`, with the count that the call gives.
  pub fewest_judged : (j : Judged) → JudgeSays p k f (form_of p r) j → OwnAccepted r j
  fewest_judged j q = given_judged p k f (plan_refusal p k f) (fewest_plan p k f) _ r d z (any_accepted p k f within.0 within.1) j within.0 within.1 q

  module _ (l : f < k) where
    claims : Fewest p k f
    claims = plans_fewest p k f within.0.width within.0.disks l

    -- For a data disk that count is at most kp - (k - 1)(p + 1)/4,
    pub fewest_most : 4 * r.reads + (k - 1) * (p + 1) ≤ 4 * (k * p)
    fewest_most = omega (arith, reads_are, claims.mean)

    -- no more than that of `plan_disk`, `balanced_plan` or `relief_plan`,
    pub below_ours : (q : Plan) → PlanSays p k f q → q.answer.refusal ≡ 0 → r.reads ≤ q.reads
    below_ours q e y = omega (arith, reads_are, claims.ours, given_reads p k f (plan_refusal p k f) (plan_of p k f) _ q e y)

    pub below_balanced : (q : Plan) → BalancedSays p k f q → q.answer.refusal ≡ 0 → r.reads ≤ q.reads
    below_balanced q e y = omega (arith, reads_are, claims.balanced, given_reads p k f (plan_refusal p k f) (balanced_plan p k f) _ q e y)

    pub below_relief : (c : ℕ) (q : Plan) → ReliefSays p k f c q → q.answer.refusal ≡ 0 → r.reads ≤ q.reads
    below_relief c q e y =
        let w = relieves p k f c (given_none p k f (relief_refusal p k f c) _ _ q e y) in
        omega (arith, reads_are, claims.reliefs c w.data_disk w.other, given_reads p k f (relief_refusal p k f c) (relief_plan p k f c) _ q e y)

    -- with p data disks (3p² + 1)/4, with p - 1 of them (3p² - 4p + 5)/4, with 2 (3p + 1)/2,
    pub full_reads : k ≡ p → 4 * r.reads ≡ 3 * (p * p) + 1
    full_reads e = omega (arith, reads_are, claims.full_count e)

    pub short_reads : k ≡ p - 1 → 4 * r.reads + 4 * p ≡ 3 * (p * p) + 5
    short_reads e = omega (arith, reads_are, claims.short_count e)

    pub pair_reads : k ≡ 2 → 2 * r.reads ≡ 3 * p + 1
    pair_reads e = omega (arith, reads_are, claims.pair_count e)

    -- and there no plan that the judge accepts has a smaller one.
    pub none_fewer : (k ≡ p) ⊎ ((k ≡ p - 1) ⊎ (k ≡ 2)) → (bs : List ℕ) (j : Judged) → JudgeSays p k f bs j → j.answer.refusal ≡ 0 → r.reads ≤ j.reads
    none_fewer side bs j q y = omega (arith, reads_are, zero_counts p k f bs j q y, go side)
      where
        go : (k ≡ p) ⊎ ((k ≡ p - 1) ⊎ (k ≡ 2)) → read_count p k f (fewest_plan p k f) ≤ read_count p k f (steps_in p bs)
        go (inl e) = claims.full_least e (steps_in p bs) (zero_accepts p k f bs j q y).accepts
        go (inr (inl e)) = claims.short_least e (steps_in p bs) (zero_accepts p k f bs j q y).accepts
        go (inr (inr e)) = claims.pair_least e (steps_in p bs) (zero_accepts p k f bs j q y).accepts
