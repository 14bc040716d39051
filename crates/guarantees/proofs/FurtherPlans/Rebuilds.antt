-- The rebuilds by a host's plan and by the balanced plan: whatever the calls return, as long as
-- they keep their promises.
-- t, u are lent stripes, o a column as it was lent, o' as it is given back. That their lengths are
-- those required and that stripes are bytes comes with the answers.
use mathlib.Core.Path.{◌≡◌, sym, ap, ◌∙◌}
use mathlib.Core.Bool.{true}
use mathlib.Core.List.{List}
use Prim.Native.Nat.{ℕ, ◌+◌, ◌*◌, ◌<◌}
use native.Mathlib.Omega.{arith}
use lib.Dec.{eqb}
use lib.ListN.{length, get_or}
use Rattle.mathematics.specs.Choice.{pick, first_of}
use Rattle.liberation.specs.Sets.{disk_at}
use Rattle.liberation.specs.Plans.{Step, plan_of}
use Rattle.liberation.specs.Judging.{accepted, steps_in, judge}
use Rattle.liberation.specs.Claims.{Rearranged}
use Rattle.liberation.proofs.RefusalLaws.{plan_none}
use Rattle.liberation.proofs.PartPlans.{plan_accepted}
use Rattle.liberation.specs.BalancedPlan.Balanced.{balanced_plan}
use Rattle.liberation.proofs.BalancedPlan.BalancedPlan.{balanced_accepted}
use Rattle.liberation.specs.Stripes.Stripes.{cell_at, column_of, is_stripe, clean, rebuilt_by, rebuilt}
use Rattle.liberation.proofs.Stripes.Rebuilding.{plan_back, plan_unused, plan_only_read}
use Rattle.liberation.proofs.Stripes.RearrangedBytes.{bytes_same}
use Rattle.refusals.specs.declared.answer.Answer.{Answer}
use Rattle.planner.specs.declared.Plan.{Plan}
use Rattle.planner.specs.PlanSays.{PlanSays}
use Rattle.planner.proofs.FormLaws.{form_of, length_of, plan_form}
use Rattle.planner.specs.BalancedPlanSays.{BalancedSays}
use Rattle.judge.proofs.AcceptLaws.{decided, accepts_judged}
use Rattle.host_plans.specs.PlanListSays.{PlanListSays}
use Rattle.rebuild_one.specs.RebuildOneSays.{one_refusal, OneSays}
use Rattle.rebuild_one.proofs.OneRefusals.{refusal_none}
use Rattle.host_plans.specs.RebuildByPlanSays.{call_refusal, ByPlanSays}
use Rattle.host_plans.proofs.ByPlanLaws.{passed, no_refusal}
use Rattle.rebuild_one.specs.RebuildBalancedSays.{BalancedOneSays}
use Rattle.guarantees.proofs.Stripes.{is_stripe_lem}
use Rattle.guarantees.proofs.FurtherPlans.Plans.{balanced_form, list_written}

-- what an accepted rebuild by a plan shows
pub record Taken (p k s f : ℕ) (bs t o' : List ℕ) : Type 0 where
  pub disk : f < k + 2
  pub accepts : accepted p k f (steps_in p bs) ≡ true
  pub stripe : is_stripe p k s t ≡ true
  pub column : o' ≡ rebuilt_by p k s f (steps_in p bs) t

pub taken : (p k s f : ℕ) (bs t o o' : List ℕ) (r : Answer) → ByPlanSays p k s f bs t o o' r → r.refusal ≡ 0 → Taken p k s f bs t o'
taken p k s f bs t o o' r d z =
    let q = decided p k f (call_refusal p k s f bs t o) bs (rebuilt_by p k s f (steps_in p bs) t) o o' r d.decides z in
    let w = passed p k s f bs t o q.0 in
    record { disk = omega (arith, w.disk); accepts = q.1; stripe = is_stripe_lem p k s t w.sized.long d.bytes; column = q.2 }

-- Survivors of a clean stripe u bring the disk back as it was in u, whatever stood in the lost
-- column.
pub by_plan_back :
    (p k s f : ℕ) (bs t u o o' : List ℕ) (r : Answer) → is_stripe p k s u ≡ true → clean p k s u ≡ true → ByPlanSays p k s f bs t o o' r → r.refusal ≡ 0
    → ((x : ℕ) → x < p * (k + 2) → (disk_at p x ≡ f → ⊥) → cell_at s t x ≡ cell_at s u x) → o' ≡ column_of p s f u
by_plan_back p k s f bs t u o o' r v c d z h =
    let a = taken p k s f bs t o o' r d z in
    a.column ∙ plan_back p k s f (steps_in p bs) a.accepts a.disk t u a.stripe v c h

-- What the stripe holds for the lost disk is never used: two accepted calls with one plan, on
-- stripes alike off that disk, write one column, on dirty stripes too.
pub by_plan_unused :
    (p k s f : ℕ) (bs t u o o' n n' : List ℕ) (r q : Answer) → ByPlanSays p k s f bs t o o' r → r.refusal ≡ 0 → ByPlanSays p k s f bs u n n' q → q.refusal ≡ 0
    → ((x : ℕ) → x < p * (k + 2) → (disk_at p x ≡ f → ⊥) → cell_at s t x ≡ cell_at s u x) → o' ≡ n'
by_plan_unused p k s f bs t u o o' n n' r q d z m y h =
    let a = taken p k s f bs t o o' r d z in
    let b = taken p k s f bs u n n' q m y in
    a.column ∙ plan_unused p k s f (steps_in p bs) a.accepts a.disk t u a.stripe b.stripe h ∙ sym b.column

-- Stripes alike in every cell marked 1 in the list that `plan_list` writes for the plan give one
-- column, dirty stripes too.
pub by_plan_column :
    (p k s f : ℕ) (bs t u o o' n n' l l' : List ℕ) (r q a : Answer)
    → ByPlanSays p k s f bs t o o' r → r.refusal ≡ 0 → ByPlanSays p k s f bs u n n' q → q.refusal ≡ 0 → PlanListSays p k f bs l l' a → a.refusal ≡ 0
    → ((x : ℕ) → get_or l' x 0 ≡ 1 → cell_at s t x ≡ cell_at s u x) → o' ≡ n'
by_plan_column p k s f bs t u o o' n n' l l' r q a d z m y w e h =
    let i = taken p k s f bs t o o' r d z in
    let j = taken p k s f bs u n n' q m y in
    let list = (list_written p k f bs l l' a w e).list in
    i.column
    ∙ plan_only_read p k s f (steps_in p bs) i.accepts i.disk t u i.stripe j.stripe (λ x g. h x (ap (λ (v : List ℕ). get_or v x 0) list ∙ g))
    ∙ sym j.column

-- A rearrangement of the steps that is accepted too writes the same column, dirty stripes too.
pub by_plan_rearranged :
    (p k s f : ℕ) (bs cs t o o' n n' : List ℕ) (r q : Answer) → ByPlanSays p k s f bs t o o' r → r.refusal ≡ 0 → ByPlanSays p k s f cs t n n' q → q.refusal ≡ 0 → Rearranged (steps_in p bs) (steps_in p cs) → o' ≡ n'
by_plan_rearranged p k s f bs cs t o o' n n' r q d z m y e =
    let a = taken p k s f bs t o o' r d z in
    let b = taken p k s f cs t n n' q m y in
    a.column ∙ ap (column_of p s f) (bytes_same p k s f (steps_in p bs) (steps_in p cs) a.accepts b.accepts e t a.stripe) ∙ sym b.column

-- the column that an accepted rebuild by the balanced plan writes
balanced_column : (p k s f : ℕ) (t o o' : List ℕ) (r : Answer) → BalancedOneSays p k s f t o o' r → r.refusal ≡ 0 → o' ≡ rebuilt_by p k s f (balanced_plan p k f) t
balanced_column p k s f t o o' r d z = d.column ∙ ap (λ (n : ℕ). pick (eqb n 0) (rebuilt_by p k s f (balanced_plan p k f) t) o) (sym d.answer.refusal ∙ z)

-- A rebuild that refuses as `rebuild_one` does and follows the plan ss: where it is accepted, so is
-- `rebuild_by_plan` with the bytes bs of that plan, on the same stripe and column, and it writes
-- the same.
alike : (p k s f : ℕ) (ss : List Step) (bs t o o' n' : List ℕ) (b : Answer) → one_refusal p k s f t o ≡ 0 → length bs ≡ 3 * p → steps_in p bs ≡ ss → accepted p k f ss ≡ true → o' ≡ rebuilt_by p k s f ss t → ByPlanSays p k s f bs t o n' b → (b.refusal ≡ 0) × (o' ≡ n')
alike p k s f ss bs t o o' n' b fine long form ok e m = (none, e ∙ sym ((taken p k s f bs t o n' b m none).column ∙ ap (λ (us : List Step). rebuilt_by p k s f us t) form))
  where
    none : b.refusal ≡ 0
    none = m.decides.refusal ∙ ap (λ (x : ℕ). first_of x (judge p k f (steps_in p bs)).number) (no_refusal p k s f bs t o long fine) ∙ accepts_judged p k f bs (ap (accepted p k f) form ∙ ok)

-- `rebuild_balanced` writes what `rebuild_by_plan` writes for the steps of `balanced_plan`,
pub balanced_alike : (p k s f : ℕ) (t o o' n' : List ℕ) (r : Plan) (a b : Answer) → BalancedOneSays p k s f t o o' a → a.refusal ≡ 0 → BalancedSays p k f r → ByPlanSays p k s f (form_of p r) t o n' b → (b.refusal ≡ 0) × (o' ≡ n')
balanced_alike p k s f t o o' n' r a b d z g m =
    let fine : one_refusal p k s f t o ≡ 0 = sym d.answer.refusal ∙ z in
    let w = refusal_none p k s f (length o) t fine in
    alike p k s f (balanced_plan p k f) (form_of p r) t o o' n' b fine (length_of p r)
    (balanced_form p k f r g (g.answer.refusal ∙ plan_none p k f w.0.array w.1))
    (balanced_accepted p k f w.0.array.width w.0.array.disks w.1) (balanced_column p k s f t o o' a d z) m

-- and `rebuild_one` what it writes for those of `plan_disk`.
pub own_alike : (p k s f : ℕ) (t o o' n' : List ℕ) (r : Plan) (a b : Answer) → OneSays p k s f t o o' a → a.refusal ≡ 0 → PlanSays p k f r → ByPlanSays p k s f (form_of p r) t o n' b → (b.refusal ≡ 0) × (o' ≡ n')
unfolding rebuilt
own_alike p k s f t o o' n' r a b d z g m =
    let fine : one_refusal p k s f t o ≡ 0 = sym d.answer.refusal ∙ z in
    let w = refusal_none p k s f (length o) t fine in
    alike p k s f (plan_of p k f) (form_of p r) t o o' n' b fine (length_of p r)
    (plan_form p k f r g (g.answer.refusal ∙ plan_none p k f w.0.array w.1))
    (plan_accepted p k f w.0.array.width w.0.array.disks w.1) (d.column ∙ ap (λ (x : ℕ). pick (eqb x 0) (rebuilt p k s f t) o) fine) m

-- Survivors of a clean stripe u bring the disk back by the balanced plan too.
pub balanced_back :
    (p k s f : ℕ) (t u o o' : List ℕ) (r : Answer) → is_stripe p k s u ≡ true → clean p k s u ≡ true → BalancedOneSays p k s f t o o' r → r.refusal ≡ 0
    → ((x : ℕ) → x < p * (k + 2) → (disk_at p x ≡ f → ⊥) → cell_at s t x ≡ cell_at s u x) → o' ≡ column_of p s f u
balanced_back p k s f t u o o' r v c d z h =
    let w = refusal_none p k s f (length o) t (sym d.answer.refusal ∙ z) in
    balanced_column p k s f t o o' r d z
    ∙ plan_back p k s f (balanced_plan p k f) (balanced_accepted p k f w.0.array.width w.0.array.disks w.1) (omega (arith, w.1)) t u (is_stripe_lem p k s t w.0.long d.bytes) v c h
