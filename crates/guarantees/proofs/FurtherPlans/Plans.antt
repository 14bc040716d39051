-- The balanced plan and the relief plan as their calls give them, put before the judge and into a
-- read list: whatever the calls return, as long as they keep their promises.
use mathlib.Core.Path.{◌≡◌, refl, sym, ap, subst, ◌∙◌}
use mathlib.Core.Bool.{Bool, true}
use mathlib.Core.List.{List, []}
use Prim.Native.Nat.{ℕ, ◌+◌, ◌*◌, ◌≤◌, ◌<◌}
use native.Mathlib.Omega.{arith}
use lib.Dec.{eqb}
use lib.ListN.{length}
use borrow.Author.Tests.{le-ltb}
use Rattle.mathematics.specs.Choice.{pick}
use Rattle.mathematics.specs.Sums.{ones_in}
use Rattle.liberation.specs.Limits.{InArray}
use Rattle.liberation.specs.Sets.{plan_refusal}
use Rattle.liberation.specs.Plans.{Step, word_from, route_word, cells_read, read_count, read_list, list_of}
use Rattle.liberation.specs.Judging.{accepted, steps_in}
use Rattle.liberation.proofs.RefusalLaws.{plan_of_lem, plan_none}
use Rattle.liberation.proofs.Widths.{width_odd}
use Rattle.liberation.proofs.ReadLaws.{marks_count}
use Rattle.liberation.proofs.UsedLaws.{named_numbers}
use Rattle.liberation.proofs.AcceptedLaws.{accepted_length, accepted_named}
use Rattle.liberation.proofs.RecordLaws.{form_steps}
use Rattle.liberation.proofs.Demand3.{plans_best}
use Rattle.liberation.specs.BalancedPlan.Balanced.{reads_of, balanced_routes, balanced_plan}
use Rattle.liberation.proofs.BalancedPlan.BalancedPlan.{balanced_parity, balanced_accepted}
use Rattle.liberation.proofs.BalancedPlan.BalancedShares.{plans_balanced, plans_balanced_part}
use Rattle.liberation.specs.ReliefPlan.Relief.{Relief, relief_step, relief_routes, relief_plan}
use Rattle.liberation.proofs.ReliefPlan.ProgressionPlan.{progression_parity}
use Rattle.liberation.proofs.ReliefPlan.ReliefPlan.{plans_relief}
use Rattle.liberation.proofs.ReliefPlan.HalfAsked.{half_asked}
use Rattle.refusals.specs.declared.answer.Answer.{Answer}
use Rattle.refusals.proofs.AnswerLaws.{answers_none}
use Rattle.planner.proofs.HeldLaws.{held_is}
use Rattle.planner.specs.declared.Plan.{Plan}
use Rattle.planner.specs.PlanSays.{GivesPlan, PlanSays}
use Rattle.planner.proofs.FormLaws.{form_of, length_of, plan_form}
use Rattle.planner.specs.BalancedPlanSays.{BalancedSays}
use Rattle.planner.specs.ReliefPlanSays.{relief_refusal, ReliefSays}
use Rattle.planner.proofs.ReliefLaws.{Passed as Relieves, passed as relieves, relief_accepted}
use Rattle.planner.specs.ReadListSays.{ListSays}
use Rattle.planner.proofs.ReadListMeans.{marks_ones}
use Rattle.judge.specs.declared.all_steps.Judged.{Judged}
use Rattle.judge.specs.JudgeSays.{JudgeSays}
use Rattle.judge.proofs.AcceptLaws.{zero_accepts, accepts_zero, zero_counts, decided}
use Rattle.host_plans.specs.PlanListSays.{lists_refusal, PlanListSays}
use Rattle.host_plans.proofs.PlanListLaws.{list_passed}
use Rattle.guarantees.proofs.Plans.{OwnAccepted}
use Rattle.guarantees.specs.FurtherPlans.Counts.{ones_on, share}
use Rattle.guarantees.proofs.FurtherPlans.ListCounts.{ones_on_lem, share_is}

-- what a planner gives that refuses nothing: the plan ss, in a record and in the judge's form, and
-- its read count
module _ (p k f n : ℕ) (ss : List Step) (w : ℕ) (r : Plan) (d : GivesPlan p k f n ss w r) (z : r.answer.refusal ≡ 0) where
  pub given_none : n ≡ 0
  given_none = answers_none n r.answer d.answer z

  pub given_reads : r.reads ≡ read_count p k f ss
  given_reads = d.reads ∙ ap (λ (x : ℕ). pick (eqb x 0) (read_count p k f ss) 0) given_none

  module _ (ok : accepted p k f ss ≡ true) where
    pub given_form : steps_in p (form_of p r) ≡ ss
    given_form =
        form_steps p 0 r.steps.rows r.steps.kinds r.steps.numbers
        ∙ held_is p ss r.steps (accepted_length p k f ss ok) (rw (ap (λ (x : ℕ). pick (eqb x 0) ss []) given_none) at d.steps)

    -- the judge accepts it, with that count
    pub given_judged : (j : Judged) → InArray p k → f ≤ k + 1 → JudgeSays p k f (form_of p r) j → OwnAccepted r j
    given_judged j a h q =
        let g : j.answer.refusal ≡ 0 = accepts_zero p k f (form_of p r) j q (record { array = a; disk = h; long = length_of p r; accepts = ap (accepted p k f) given_form ∙ ok }) in
        record { refusal = g; reads = zero_counts p k f (form_of p r) j q g ∙ ap (read_count p k f) given_form ∙ sym given_reads }

-- the same promise by other names
pub given_as : (p k f n m : ℕ) (ss us : List Step) (w v : ℕ) (r : Plan) → n ≡ m → ss ≡ us → w ≡ v → GivesPlan p k f n ss w r → GivesPlan p k f m us v r
given_as p k f n m ss us w v r a b c d = subst (λ (x : ℕ). GivesPlan p k f x us v r) a (subst (λ (y : List Step). GivesPlan p k f n y v r) b (subst (λ (z : ℕ). GivesPlan p k f n ss z r) c d))

-- what the balanced planner's numbers are
within : (p k f : ℕ) (r : Plan) → BalancedSays p k f r → r.answer.refusal ≡ 0 → InArray p k × (f ≤ k + 1)
within p k f r d z = plan_of_lem p k f (given_none p k f (plan_refusal p k f) _ _ r d z)

pub balanced_form : (p k f : ℕ) (r : Plan) → BalancedSays p k f r → r.answer.refusal ≡ 0 → steps_in p (form_of p r) ≡ balanced_plan p k f
balanced_form p k f r d z = let w = within p k f r d z in given_form p k f (plan_refusal p k f) (balanced_plan p k f) _ r d z (balanced_accepted p k f w.0.width w.0.disks w.1)

-- The judge accepts the steps of `balanced_plan`, with the count that the call gives.
pub balanced_judged : (p k f : ℕ) (r : Plan) (j : Judged) → BalancedSays p k f r → r.answer.refusal ≡ 0 → JudgeSays p k f (form_of p r) j → OwnAccepted r j
balanced_judged p k f r j d z q = let w = within p k f r d z in given_judged p k f (plan_refusal p k f) (balanced_plan p k f) _ r d z (balanced_accepted p k f w.0.width w.0.disks w.1) j w.0 w.1 q

-- In a full array that count is (3p² + 1)/4 for a data disk,
pub balanced_reads : (p f : ℕ) (r : Plan) → f < p → BalancedSays p p f r → r.answer.refusal ≡ 0 → 4 * r.reads ≡ 3 * (p * p) + 1
balanced_reads p f r l d z = ap (λ (n : ℕ). 4 * n) (given_reads p p f (plan_refusal p p f) (balanced_plan p p f) _ r d z) ∙ (plans_balanced p f (within p p f r d z).0.width l).balanced_count

-- and no plan that the judge accepts has a smaller one.
pub balanced_fewest : (p f : ℕ) (bs : List ℕ) (r : Plan) (j : Judged) → f < p → BalancedSays p p f r → r.answer.refusal ≡ 0 → JudgeSays p p f bs j → j.answer.refusal ≡ 0 → r.reads ≤ j.reads
balanced_fewest p f bs r j l d z q y =
    let best = plans_best p f (within p p f r d z).0.width l in
    let least = best.least (steps_in p bs) (zero_accepts p p f bs j q y).accepts in
    omega (arith, balanced_reads p f r l d z, best.ours_count, least, zero_counts p p f bs j q y)

-- For a lost P or Q `balanced_plan` gives what `plan_disk` gives, refused or not.
pub balanced_parity_ours : (p k f : ℕ) (r : Plan) → k ≤ f → BalancedSays p k f r → PlanSays p k f r
balanced_parity_ours p k f r h d = given_as p k f _ _ _ _ _ _ r refl (balanced_parity p k f h) (ap (λ (b : Bool). pick b (word_from 0 (balanced_routes p f)) (route_word p k f)) (le-ltb f k h)) d

-- the numbers of the relief planner
relieved : (p k f c : ℕ) (r : Plan) → ReliefSays p k f c r → r.answer.refusal ≡ 0 → Relieves p k f c
relieved p k f c r d z = relieves p k f c (given_none p k f (relief_refusal p k f c) _ _ r d z)

claims : (p k f c : ℕ) (r : Plan) → f < k → ReliefSays p k f c r → r.answer.refusal ≡ 0 → Relief p k f c
claims p k f c r l d z = let w = relieved p k f c r d z in plans_relief p k f c w.array.width w.array.disks l w.data_disk w.other

pub relief_form : (p k f c : ℕ) (r : Plan) → ReliefSays p k f c r → r.answer.refusal ≡ 0 → steps_in p (form_of p r) ≡ relief_plan p k f c
relief_form p k f c r d z = given_form p k f (relief_refusal p k f c) (relief_plan p k f c) _ r d z (relief_accepted p k f c (relieved p k f c r d z))

-- The judge accepts the steps of `relief_plan`, with the count that the call gives.
pub relief_judged : (p k f c : ℕ) (r : Plan) (j : Judged) → ReliefSays p k f c r → r.answer.refusal ≡ 0 → JudgeSays p k f (form_of p r) j → OwnAccepted r j
relief_judged p k f c r j d z q = let w = relieved p k f c r d z in given_judged p k f (relief_refusal p k f c) (relief_plan p k f c) _ r d z (relief_accepted p k f c w) j w.array w.disk q

-- In a full array that count is (3p² + 1)/4 for a data disk,
pub relief_reads : (p f c : ℕ) (r : Plan) → f < p → ReliefSays p p f c r → r.answer.refusal ≡ 0 → 4 * r.reads ≡ 3 * (p * p) + 1
relief_reads p f c r l d z = ap (λ (n : ℕ). 4 * n) (given_reads p p f (relief_refusal p p f c) (relief_plan p p f c) _ r d z) ∙ (claims p p f c r l d z).full_count refl

-- and no plan that the judge accepts has a smaller one.
pub relief_fewest : (p f c : ℕ) (bs : List ℕ) (r : Plan) (j : Judged) → f < p → ReliefSays p p f c r → r.answer.refusal ≡ 0 → JudgeSays p p f bs j → j.answer.refusal ≡ 0 → r.reads ≤ j.reads
relief_fewest p f c bs r j l d z q y =
    let least = (claims p p f c r l d z).full_least refl (steps_in p bs) (zero_accepts p p f bs j q y).accepts in
    omega (arith, least, given_reads p p f (relief_refusal p p f c) (relief_plan p p f c) _ r d z, zero_counts p p f bs j q y)

-- For a lost P or Q an accepted `relief_plan` gives what `plan_disk` gives.
pub relief_parity_ours : (p k f c : ℕ) (r : Plan) → k ≤ f → ReliefSays p k f c r → r.answer.refusal ≡ 0 → PlanSays p k f r
relief_parity_ours p k f c r h d z =
    let none : relief_refusal p k f c ≡ 0 = given_none p k f (relief_refusal p k f c) _ _ r d z in
    let w = relieves p k f c none in
    given_as p k f _ _ _ _ _ _ r (none ∙ sym (plan_none p k f w.array w.disk)) (progression_parity p k f (relief_step p f c) h) (ap (λ (b : Bool). pick b (word_from 0 (relief_routes p f c)) (route_word p k f)) (le-ltb f k h)) d

-- A list that `plan_list` wrote: the numbers are within limits, the plan is accepted, and the list
-- is the plan's.
pub record Written (p k f : ℕ) (bs o' : List ℕ) : Type 0 where
  pub array : InArray p k
  pub disk : f ≤ k + 1
  pub long : length bs ≡ 3 * p
  pub accepts : accepted p k f (steps_in p bs) ≡ true
  pub list : o' ≡ list_of p k f (steps_in p bs)

pub list_written : (p k f : ℕ) (bs o o' : List ℕ) (a : Answer) → PlanListSays p k f bs o o' a → a.refusal ≡ 0 → Written p k f bs o'
list_written p k f bs o o' a d z =
    let q = decided p k f (lists_refusal p k f bs o) bs (list_of p k f (steps_in p bs)) o o' a d z in
    let w = list_passed p k f bs o q.0 in
    record { array = w.array; disk = w.disk; long = w.plan; accepts = q.1; list = q.2 }

-- Its ones are as many as the judge counts for the plan.
pub written_count : (p k f : ℕ) (bs o o' : List ℕ) (a : Answer) (j : Judged) → PlanListSays p k f bs o o' a → a.refusal ≡ 0 → JudgeSays p k f bs j → ones_in o' ≡ j.reads
written_count p k f bs o o' a j d z q =
    let w = list_written p k f bs o o' a d z in
    let ss = steps_in p bs in
    let g : j.answer.refusal ≡ 0 = accepts_zero p k f bs j q (record { array = w.array; disk = w.disk; long = w.long; accepts = w.accepts }) in
    ap ones_in w.list
    ∙ marks_ones (p * (k + 2)) 0 (cells_read p k f ss)
    ∙ marks_count p k f ss (named_numbers p ss (accepted_named p k f ss w.accepts))
    ∙ sym (zero_counts p k f bs j q g)

-- The list of the steps of `plan_disk` is the one that `read_list` writes.
pub own_list : (p k f : ℕ) (r : Plan) (o o' n n' : List ℕ) (a b : Answer) → PlanSays p k f r → r.answer.refusal ≡ 0 → PlanListSays p k f (form_of p r) o o' a → a.refusal ≡ 0 → ListSays p k f n n' b → b.refusal ≡ 0 → o' ≡ n'
own_list p k f r o o' n n' a b d z q y e x =
    (list_written p k f (form_of p r) o o' a q y).list
    ∙ ap (list_of p k f) (plan_form p k f r d z)
    ∙ sym (e.list ∙ ap (λ (m : ℕ). pick (eqb m 0) (read_list p k f) n) (sym e.answer.refusal ∙ x))

-- its ones on a disk
pub written_on : (p k f c : ℕ) (bs o o' : List ℕ) (a : Answer) → PlanListSays p k f bs o o' a → a.refusal ≡ 0 → c < k + 2 → ones_on p c o' ≡ reads_of p k f c (steps_in p bs)
written_on p k f c bs o o' a d z h = ap (ones_on p c) (list_written p k f bs o o' a d z).list ∙ ones_on_lem p k f c (steps_in p bs) h

-- The list of the steps of `balanced_plan` for a data disk has at most the fair share of ones on
-- any disk,
pub balanced_ones : (p k f c : ℕ) (r : Plan) (o o' : List ℕ) (a : Answer) → f < k → c < k + 2 → BalancedSays p k f r → r.answer.refusal ≡ 0 → PlanListSays p k f (form_of p r) o o' a → a.refusal ≡ 0 → ones_on p c o' ≤ share p
balanced_ones p k f c r o o' a l h d z q y =
    let w = within p k f r d z in
    let ones = written_on p k f c (form_of p r) o o' a q y h ∙ ap (reads_of p k f c) (balanced_form p k f r d z) in
    omega (arith, ones, share_is p (width_odd p w.0.width), (plans_balanced_part p k f w.0.width w.0.disks w.1).balanced_shares l c h)

-- and in a full array every list that `plan_list` writes for a data disk has as many on some
-- surviving data disk.
pub some_busy : (p f : ℕ) (bs o o' : List ℕ) (a : Answer) → f < p → PlanListSays p p f bs o o' a → a.refusal ≡ 0 → (c : ℕ) × (c < p) × (c ≡ f → ⊥) × (share p ≤ ones_on p c o')
some_busy p f bs o o' a l d z =
    let w = list_written p p f bs o o' a d z in
    let b = (plans_balanced p f w.array.width l).busiest (steps_in p bs) w.accepts in
    (b.0, b.1, b.2, omega (arith, b.3, share_is p (width_odd p w.array.width), written_on p p f b.0 bs o o' a d z (omega (arith, b.1))))

-- The list of the steps of `relief_plan` for a data disk has (p + 1)/2 ones on the relieved disk,
pub relief_ones : (p k f c : ℕ) (r : Plan) (o o' : List ℕ) (a : Answer) → f < k → ReliefSays p k f c r → r.answer.refusal ≡ 0 → PlanListSays p k f (form_of p r) o o' a → a.refusal ≡ 0 → 2 * ones_on p c o' ≡ p + 1
relief_ones p k f c r o o' a l d z q y =
    let h : c < k + 2 = omega (arith, (relieved p k f c r d z).data_disk) in
    ap (λ (n : ℕ). 2 * n) (written_on p k f c (form_of p r) o o' a q y h ∙ ap (reads_of p k f c) (relief_form p k f c r d z)) ∙ (claims p k f c r l d z).relieved

-- and every list that `plan_list` writes, whatever disk is lost, has as many at least on every
-- surviving data disk.
pub half_ones : (p k f c : ℕ) (bs o o' : List ℕ) (a : Answer) → c < k → (c ≡ f → ⊥) → PlanListSays p k f bs o o' a → a.refusal ≡ 0 → p + 1 ≤ 2 * ones_on p c o'
half_ones p k f c bs o o' a l n d z =
    let w = list_written p k f bs o o' a d z in
    omega (arith, written_on p k f c bs o o' a d z (omega arith), half_asked p k f c (steps_in p bs) w.array.width w.array.disks w.disk l n w.accepts)
