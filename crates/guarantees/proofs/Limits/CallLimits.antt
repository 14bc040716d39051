-- The refusals of each call decide its limits.
use mathlib.Core.Path.{◌≡◌, refl, sym, ap, ap₂, ◌∙◌, subst}
use mathlib.Core.Bool.{Bool, true, false, ◌&&◌, ◌||◌, not}
use mathlib.Core.Logic.{inl, inr, ⊎_elim}
use mathlib.Core.List.{List, [], ◌∷◌}
use Prim.Native.Nat.{ℕ, zero, suc, ◌+◌, ◌*◌, ◌^◌, ◌≤◌, ◌<◌}
use native.Mathlib.Omega.{arith}
use lib.Dec.{eqb, ltb, leb}
use lib.ListN.{length, get_or}
use borrow.Author.Tests.{eqb-true, eqb-false, eq-eqb, ne_eqb, ltb-false, leb-true, leb-false, le-ltb, lt-leb, not-false}
use Rattle.mathematics.specs.Choice.{pick, when, first_of}
use Rattle.mathematics.specs.Sums.{total}
use Rattle.mathematics.specs.Xor.{all_bytes}
use Rattle.mathematics.proofs.Flags.{flag, clash, or_false_l, or_false_r}
use Rattle.mathematics.proofs.ChoiceLaws.{first_zero}
use Rattle.mathematics.proofs.OrderLaws.{lt_or_le}
use Rattle.liberation.specs.Sets.{width_refusal, disk_refusal}
use Rattle.liberation.specs.Plans.{Step}
use Rattle.liberation.specs.Judging.{judge}
use Rattle.liberation.proofs.Widths.{width_least}
use Rattle.liberation.specs.Stripes.Stripes.{stripe_long, is_stripe}
use Rattle.liberation.proofs.Stripes.Solving.{stripe_of}
use Rattle.liberation.specs.Scrub.Survivors.{with_rebuilt, fits}
use Rattle.liberation.proofs.Scrub.Explaining.{fits_explains, explains_fits}
use Rattle.rebuild_cells.specs.Theory.Mending.{missing_cells, mendable}
use Rattle.rebuild_cells.proofs.Theory.Marked.{missing_distinct, missing_below}
use Rattle.rebuild_cells.proofs.Theory.MendLaws.{mendable_determined}
use Rattle.rebuild_cells.proofs.Theory.Exact.{determined_mendable}
use Rattle.plan_texts.specs.Form.Reading.{readable, steps_read}
use Rattle.plan_texts.proofs.Form.TextTheorems.{form_readable, readable_has_form}
use Rattle.liberation.specs.ParityServer.Servers.{servers_long, lost, first_loss, second_loss, servers_refusal, server_refusal, byte_refusal, pair_refusal, losses_refusal, call_refusal, write_refusal, rebuild_refusal}
use Rattle.planner.specs.ReadListSays.{read_list_refusal}
use Rattle.planner.specs.ReliefPlanSays.{relief_refusal}
use Rattle.host_plans.specs.PlanListSays.{lists_refusal}
use Rattle.host_plans.specs.RebuildByPlanSays.{call_refusal as by_plan_refusal}
use Rattle.judge.specs.JudgeSays.{form_refusal}
use Rattle.plan_texts.specs.JudgeTextSays.{text_refusal, judge_first, all_refusals}
use Rattle.plan_texts.specs.PlainTextSays.{room_refusal, write_first, plain_first}
use Rattle.printed_plan.specs.Input.{first_value, second_value, is_form}
use Rattle.printed_plan.proofs.FormLaws.{form_only, form_of}
use Rattle.printed_plan.specs.Text.{input_refusal}
use Rattle.refusals.specs.StripeSays.{stripe_refusal}
use Rattle.rebuild_one.specs.RebuildOneSays.{one_refusal}
use Rattle.rebuild_tested.specs.Says.{tested_refusal}
use Rattle.rebuild_two.specs.Says.{two_refusal}
use Rattle.update.specs.Says.{update_refusal}
use Rattle.rebuild_cells.specs.Says.{lent_refusal, mend_refusal}
use Rattle.rebuild_runs.specs.declared.Run.{Run}
use Rattle.rebuild_runs.specs.Runs.{skipped_refusal, read_refusal, next_refusal, skip_refusal}
use Rattle.rebuild_runs.specs.StepSays.{run_step_refusal}
use Rattle.rebuild_runs.specs.declared.progress.Progress.{Progress}
use Rattle.rebuild_runs.specs.ProgressSays.{cells_so_far, ProgressSays}
use Rattle.billing.specs.Cents.{rate_refusal, bill_refusal}
use Rattle.billing.specs.Bills.{run_bytes, run_bill_refusal}
use Rattle.billing.proofs.RunLaws.{bytes_fit}
use Rattle.space.specs.Refusals.{space_refusal}
use Rattle.array_states.specs.Lost.{has_bit, lost_refusal}
use Rattle.array_states.proofs.LostLaws.{none_over, some_over}
use Rattle.array_states.specs.declared.ArrayState.{ArrayState}
use Rattle.array_states.specs.States.{state_refusal, disk_report_refusal, state_report_refusal}
use Rattle.array_states.specs.Scanning.{no_array}
use Rattle.array_states.specs.Reports.{list_refusal, report_refusal}
use Rattle.guarantees.specs.Limits.Limits.{Limits, by, ◌then◌, Decides}
use Rattle.guarantees.specs.Limits.Calls.{shape, disk, long, stripe, plan, relief_plan, read_list, steps, text, room, program, on_stripe, rebuild_one, rebuild_tested, rebuild_two, update_cell, marked_stripe, rebuild_cells, stripes, write_server, Loss, losses, all_losses, rebuild_server, skipped, next, read_run, skip_stripe, step_run, rates, bill_bytes, bill_run, package_space, state, states, report, report_state, report_disk}
use Rattle.guarantees.proofs.Limits.LimitLaws.{test, test_not, test_or, and_then, then_zero, within_zero, holds}
use Rattle.guarantees.proofs.Limits.SharedLimits.{width_decides, array_decides, shape_decides, disk_decides, length_decides, plan_decides, numbers_decide, steps_decide}

-- ---- plans
pub list_decides : (p k f : ℕ) (o : List ℕ) → Decides (read_list p k f o) (read_list_refusal p k f o) 0
list_decides p k f o = then_zero (plan_decides p k f) (λ w. length_decides (length o) (p * (k + 2)))

pub relief_decides : (p k f c : ℕ) → Decides (relief_plan p k f c) (relief_refusal p k f c) 0
relief_decides p k f c = then_zero (plan_decides p k f) (λ w. then_zero (test (leb k c) 2 (leb-false k c) (lt-leb k c)) (λ v. test (eqb c f) 3 (eqb-false c f) (ne_eqb c f)))

-- before the steps of a host's plan
pub lists_decide : (p k f : ℕ) (bs o : List ℕ) → Decides (plan p k f then (long (3 * p) bs then long (p * (k + 2)) o)) (lists_refusal p k f bs o) 0
lists_decide p k f bs o = then_zero (plan_decides p k f) (λ w. then_zero (length_decides (length bs) (3 * p)) (λ v. length_decides (length o) (p * (k + 2))))

pub by_plan_decides : (p k s f : ℕ) (bs t o : List ℕ) → Decides ((shape p k s then disk k f) then (long (3 * p) bs then (stripe p k s t then long (p * s) o))) (by_plan_refusal p k s f bs t o) 0
by_plan_decides p k s f bs t o =
    then_zero (numbers_decide p k s f) (λ w. then_zero (length_decides (length bs) (3 * p))
    (λ v. then_zero (length_decides (length t) (stripe_long p k s)) (λ u. length_decides (length o) (p * s))))

-- a call on the steps ss, n being what was refused before them
pub judge_decides : (ls : Limits) (n p k f : ℕ) (ss : List Step) → Decides ls n 0 → Decides (ls then steps 0 p k f [] ss) (all_refusals n p k f ss) (pick (eqb n 0) (judge p k f ss).place 0)
judge_decides ls n p k f ss d = and_then d (λ w. steps_decide 0 p k f [] ss)

pub form_decides : (p k f : ℕ) (bs : List ℕ) → Decides (plan p k f then long (3 * p) bs) (form_refusal p k f bs) 0
form_decides p k f bs = then_zero (plan_decides p k f) (λ w. length_decides (length bs) (3 * p))

text_decides : (p : ℕ) (t : List ℕ) → Decides (text p t) (text_refusal p t) 0
text_decides p t = test_not (readable p t) 21 (λ e. let q = readable_has_form p t e in (steps_read p t, q.0, q.1)) (λ l. form_readable p t l.0 l.1 l.2)

pub first_decides : (p k f : ℕ) (t : List ℕ) → Decides (plan p k f then text p t) (judge_first p k f t) 0
first_decides p k f t = then_zero (plan_decides p k f) (λ w. text_decides p t)

room_decides : (p k f : ℕ) (o : List ℕ) → Decides (room p k f o) (room_refusal p k f o) 0
room_decides p k f o = then_zero (plan_decides p k f) (λ w. length_decides (length o) 263)

pub write_decides : (p k f : ℕ) (bs o : List ℕ) → Decides (room p k f o then long (3 * p) bs) (write_first p k f bs o) 0
write_decides p k f bs o = then_zero (room_decides p k f o) (λ w. length_decides (length bs) (3 * p))

pub plain_decides : (p k f : ℕ) (t o : List ℕ) → Decides (room p k f o then text p t) (plain_first p k f t o) 0
plain_decides p k f t o = then_zero (room_decides p k f o) (λ w. text_decides p t)

pub program_decides : (t : List ℕ) → Decides (program t) (input_refusal t) 0
unfolding input_refusal
program_decides t =
    let a = first_value t in
    let b = second_value t in
    subst (λ (n : ℕ). Decides (program t) n 0) (form_first (is_form t) (first_of (width_refusal a) (disk_refusal a b)))
    (then_zero
    (test_not (is_form t) 11 (λ e. let q = form_only t e in (q.first, q.second, q.input)) (λ l. ap is_form l.2 ∙ form_of a b l.0 l.1))
    (λ w. then_zero (width_decides a) (λ v. disk_decides a b)))
  where
    form_first : (b : Bool) (n : ℕ) → first_of (when (not b) 12) n ≡ pick b n 12
    form_first true n = refl
    form_first false n = refl

-- ---- stripes
pub stripe_decides : (p k s : ℕ) (t : List ℕ) → Decides (on_stripe p k s t) (stripe_refusal p k s t) 0
stripe_decides p k s t = then_zero (shape_decides p k s) (λ w. length_decides (length t) (stripe_long p k s))

pub one_decides : (p k s f : ℕ) (t o : List ℕ) → Decides (rebuild_one p k s f t o) (one_refusal p k s f t o) 0
one_decides p k s f t o = then_zero (numbers_decide p k s f) (λ w. then_zero (length_decides (length t) (stripe_long p k s)) (λ v. length_decides (length o) (p * s)))

-- a stripe of the length required
lent_stripe : (p k s : ℕ) (t : List ℕ) → length t ≡ stripe_long p k s → all_bytes t ≡ true → is_stripe p k s t ≡ true
lent_stripe p k s t e b = stripe_of p k s t (e ∙ omega arith) b

pub tested_decides : (p k s f : ℕ) (t o : List ℕ) → all_bytes t ≡ true → Decides (rebuild_tested p k s f t o) (tested_refusal p k s f t o) 0
tested_decides p k s f t o b =
    then_zero (one_decides p k s f t o)
    (λ w.
    let below : f < k + 2 = omega (arith, w.1.1.1.0) in
    let ok : is_stripe p k s t ≡ true = lent_stripe p k s t w.1.1.1.1.0 b in
    test_not (fits p k s f t) 18 (λ e. (with_rebuilt p k s f t, fits_explains p k s f w.0 w.1.0.1 below t ok e)) (λ l. explains_fits p k s f w.0 w.1.0.1 below t ok l.0 l.1))

pub two_decides : (p k s a b : ℕ) (t : List ℕ) → Decides (rebuild_two p k s a b t) (two_refusal p k s a b t) 0
two_decides p k s a b t = then_zero (numbers_decide p k s a) (λ w. then_zero (disk_decides k b) (λ v. then_zero (test (eqb a b) 3 (eqb-false a b) (ne_eqb a b)) (λ u. length_decides (length t) (stripe_long p k s))))

pub update_decides : (p k s r c : ℕ) (t new : List ℕ) → Decides (update_cell p k s r c t new) (update_refusal p k s r c t new) 0
update_decides p k s r c t new =
    then_zero (shape_decides p k s) (λ w. then_zero (test (leb k c) 2 (leb-false k c) (lt-leb k c)) (λ v. then_zero (length_decides (length t) (stripe_long p k s))
    (λ u. then_zero (length_decides (length new) s) (λ x. test (leb p r) 14 (leb-false p r) (lt-leb p r)))))

pub marked_decides : (p k s : ℕ) (ms t : List ℕ) → Decides (marked_stripe p k s ms t) (lent_refusal p k s ms t) 0
marked_decides p k s ms t = then_zero (shape_decides p k s) (λ w. then_zero (length_decides (length ms) (p * (k + 2))) (λ v. length_decides (length t) (stripe_long p k s)))

pub mend_decides : (p k s : ℕ) (ms t : List ℕ) → Decides (rebuild_cells p k s ms t) (mend_refusal p k s ms t) 0
mend_decides p k s ms t =
    then_zero (marked_decides p k s ms t)
    (λ w.
    let some : 0 < p = omega (arith, width_least p w.0) in
    let below = missing_below (p * (k + 2)) ms w.1.1.1.0 in
    test_not (mendable p k (missing_cells ms)) 22 (mendable_determined p k s some (missing_cells ms) below) (determined_mendable p k s some w.1.1.0.0 (missing_cells ms) below (missing_distinct ms)))

-- ---- servers
servers_decide : (m : ℕ) → Decides (by 18 ((2 ≤ m) × (m ≤ 16))) (servers_refusal m) 0
servers_decide m = test_or (ltb m 2) (ltb 16 m) 17 (ltb-false m 2) (le-ltb m 2) (ltb-false 16 m) (le-ltb 16 m)

-- n being what the test of the servers gave
call_decides : (ls : Limits) (n p k s m : ℕ) (ts : List ℕ) → Decides ls n 0 → Decides (shape p k s then (ls then stripes p k s m ts)) (call_refusal n p k s m ts) 0
call_decides ls n p k s m ts d = then_zero (shape_decides p k s) (λ w. then_zero d (λ v. length_decides (length ts) (servers_long p k s m)))

pub write_server_decides : (p k s m : ℕ) (ts : List ℕ) → Decides (write_server p k s m ts) (write_refusal p k s m ts) 0
unfolding write_refusal
write_server_decides p k s m ts = call_decides (by 18 ((2 ≤ m) × (m ≤ 16))) (servers_refusal m) p k s m ts (servers_decide m)

-- the losses of a server that is not the lost one
module _ (i j k : ℕ) (other : i ≡ j → ⊥) where
  loss_decides : (d : ℕ) → Decides (by 3 ((i ≡ j → ⊥) → Loss k d)) (byte_refusal k d) 0
  loss_decides d = go (eqb d 255) refl
    where
      go : (b : Bool) → eqb d 255 ≡ b → Decides (by 3 ((i ≡ j → ⊥) → Loss k d)) (pick (not b) (disk_refusal k d) 0) 0
      go true e = holds _ (λ n. inl (eqb-true d 255 e), tt)
      go false e = test (ltb (k + 1) d) 2 (λ q n. inr (ltb-false (k + 1) d q)) (λ l. le-ltb (k + 1) d (⊎_elim (λ q. absurd (eqb-false d 255 e q)) (λ q. q) (l other)))

  same_decides : (a b : ℕ) → Decides (by 4 ((i ≡ j → ⊥) → (a ≡ 255 → ⊥) → a ≡ b → ⊥)) (when (lost a && eqb a b) 4) 0
  same_decides a b = go (eqb a 255) refl
    where
      go : (c : Bool) → eqb a 255 ≡ c → Decides (by 4 ((i ≡ j → ⊥) → (a ≡ 255 → ⊥) → a ≡ b → ⊥)) (when (not c && eqb a b) 4) 0
      go true e = holds _ (λ n m q. m (eqb-true a 255 e), tt)
      go false e = test (eqb a b) 3 (λ q n m. eqb-false a b q) (λ l. ne_eqb a b (l other (eqb-false a 255 e)))

  pair_decides : (a b : ℕ) → Decides (losses i j k a b) (pair_refusal k a b) 0
  pair_decides a b =
      then_zero (loss_decides a)
      (λ w. then_zero (loss_decides b) (λ v. same_decides a b))

server_decides : (i j k a b : ℕ) → Decides (losses i j k a b) (pick (eqb i j) 0 (pair_refusal k a b)) 0
server_decides i j k a b = go (eqb i j) refl
  where
    go : (c : Bool) → eqb i j ≡ c → Decides (losses i j k a b) (pick c 0 (pair_refusal k a b)) 0
    go true e = let q = eqb-true i j e in holds (losses i j k a b) (λ n. absurd (n q), (λ n. absurd (n q), (λ n. absurd (n q), tt)))
    go false e = pair_decides i j k (eqb-false i j e) a b

losses_decide : (n k j : ℕ) (ls : List ℕ) → Decides (all_losses n k j ls) (losses_refusal n k j ls) 0
unfolding losses_refusal
losses_decide zero k j ls = record { cases = (refl, refl) }
losses_decide (suc n) k j ls = then_zero (losses_decide n k j ls) (λ w. server_decides n j k (first_loss ls n) (second_loss ls n))

pub rebuild_server_decides : (p k s m j : ℕ) (ts ls : List ℕ) → Decides (rebuild_server p k s m j ts ls) (rebuild_refusal p k s m j ls ts) 0
unfolding rebuild_refusal
rebuild_server_decides p k s m j ts ls =
    then_zero
    (call_decides (by 18 ((2 ≤ m) × (m ≤ 16)) then by 18 (j ≤ m)) (server_refusal m j) p k s m ts (then_zero (servers_decide m) (λ w. test (ltb m j) 17 (ltb-false m j) (le-ltb m j))))
    (λ w. then_zero (length_decides (length ls) (2 * suc m)) (λ v. losses_decide (suc m) k j ls))

-- ---- runs
skipped_decides : (x : Run) → Decides (skipped x) (skipped_refusal x) 0
skipped_decides x = test (ltb x.next x.skipped) 9 (ltb-false x.next x.skipped) (le-ltb x.next x.skipped)

next_decides : (x : Run) (i : ℕ) → Decides (next x i) (next_refusal x i) 0
next_decides x i = test_or (leb x.stripes x.next) (not (eqb i x.next)) 9 (leb-false x.stripes x.next) (lt-leb x.stripes x.next) (λ e. eqb-true i x.next (not-false (eqb i x.next) e)) (λ l. ap not (eq-eqb i x.next l))

pub read_decides : (x : Run) → Decides (read_run x) (read_refusal x) 0
read_decides x = then_zero (numbers_decide x.shape.width x.shape.disks x.shape.cell_size x.lost) (λ w. skipped_decides x)

pub skip_decides : (x : Run) (i : ℕ) → Decides (skip_stripe x i) (skip_refusal x i) 0
skip_decides x i = then_zero (read_decides x) (λ w. next_decides x i)

pub step_run_decides : (x : Run) (i : ℕ) (t o : List ℕ) → Decides (step_run x i t o) (run_step_refusal x i t o) 0
step_run_decides x i t o =
    let p = x.shape.width in
    let k = x.shape.disks in
    let s = x.shape.cell_size in
    then_zero (one_decides p k s x.lost t o) (λ w. then_zero (skipped_decides x) (λ v. next_decides x i))

-- ---- bills and space
rates_decide : (a b c : ℕ) → Decides (rates a b c) (rate_refusal a b c) 0
rates_decide a b c =
    test (ltb 1000 a || (ltb 1000 b || ltb 1000 c)) 15
    (λ e.
    let m = or_false_r (ltb 1000 a) (ltb 1000 b || ltb 1000 c) e in
    (ltb-false 1000 a (or_false_l (ltb 1000 a) (ltb 1000 b || ltb 1000 c) e), ltb-false 1000 b (or_false_l (ltb 1000 b) (ltb 1000 c) m), ltb-false 1000 c (or_false_r (ltb 1000 b) (ltb 1000 c) m)))
    (λ l. ap₂ ◌||◌ (le-ltb 1000 a l.0) (ap₂ ◌||◌ (le-ltb 1000 b l.1) (le-ltb 1000 c l.2)))

pub bill_decides : (n a b c : ℕ) → Decides (bill_bytes n a b c) (bill_refusal n a b c) 0
bill_decides n a b c = then_zero (rates_decide a b c) (λ w. test (ltb (2 ^ 54) n) 16 (ltb-false (2 ^ 54) n) (le-ltb (2 ^ 54) n))

pub run_bill_decides : (x : Run) (a b c : ℕ) (g : Progress) → ProgressSays x g → Decides (bill_run x a b c) (run_bill_refusal x a b c) 0
run_bill_decides x a b c g d =
    then_zero (read_decides x)
    (λ w.
    let z : read_refusal x ≡ 0 = within_zero (read_decides x) w in
    let r : g.cells ≡ cells_so_far x = d.cells ∙ ap (λ (n : ℕ). pick (eqb n 0) (cells_so_far x) 0) z in
    let few : run_bytes x ≤ 2 ^ 54 = subst (λ (n : ℕ). n * x.shape.cell_size ≤ 2 ^ 54) r (bytes_fit x g d (d.answer.refusal ∙ z)) in
    let e : bill_refusal (run_bytes x) a b c ≡ rate_refusal a b c = ap (λ (t : Bool). first_of (rate_refusal a b c) (when t 17)) (le-ltb (2 ^ 54) (run_bytes x) few) ∙ first_zero (rate_refusal a b c) in
    subst (λ (n : ℕ). Decides (rates a b c) n 0) (sym e) (rates_decide a b c))

pub space_decides : (p k s : ℕ) (ls : List ℕ) → Decides (package_space p k s ls) (space_refusal p k s ls) 0
space_decides p k s ls =
    then_zero (shape_decides p k s)
    (λ w. then_zero (test (ltb 4096 (length ls)) 13 (ltb-false 4096 (length ls)) (le-ltb 4096 (length ls))) (λ v. test (ltb (2 ^ 48) (total ls)) 10 (ltb-false (2 ^ 48) (total ls)) (le-ltb (2 ^ 48) (total ls))))

-- ---- states of arrays
-- 3 means exactly a lost disk over k + 1
lost_decides : (k w : ℕ) → Decides (by 3 ((d : ℕ) → has_bit w d ≡ true → d ≤ k + 1)) (lost_refusal k w) 0
lost_decides k w = test (leb (2 ^ (k + 2)) w) 2 (λ e d h. ⊎_elim (λ l. clash (has_bit w d) h (none_over k w d (leb-false (2 ^ (k + 2)) w e) l)) (λ l. l) (lt_or_le (k + 1) d)) few
  where
    few : ((d : ℕ) → has_bit w d ≡ true → d ≤ k + 1) → leb (2 ^ (k + 2)) w ≡ false
    few l = ⊎_elim (λ e. let q = some_over k w (leb-true (2 ^ (k + 2)) w e) in absurd (omega (arith, q.1, l q.0 q.2))) (λ e. e) (flag (leb (2 ^ (k + 2)) w))

state_decides : (c : ArrayState) → Decides (state c) (state_refusal c) 0
state_decides c = then_zero (array_decides c.width c.disks) (λ w. lost_decides c.disks c.lost)

again_decides : (back lost : Bool) → Decides (by 21 (lost ≡ back)) (when (pick back (not lost) lost) 21) 0
again_decides back lost = test (pick back (not lost) lost) 20 (there back lost) (λ e. ap (λ (b : Bool). pick back (not b) b) e ∙ self back)
  where
    there : (back lost : Bool) → pick back (not lost) lost ≡ false → lost ≡ back
    there true lost e = not-false lost e
    there false lost e = e

    self : (b : Bool) → pick b (not b) b ≡ false
    self true = refl
    self false = refl

report_decides : (c : ArrayState) (d : ℕ) (back : Bool) → Decides (report c d back) (disk_report_refusal c d back) 0
report_decides c d back = then_zero (disk_decides c.disks d) (λ w. again_decides back (has_bit c.lost d))

pub report_state_decides : (c : ArrayState) (d : ℕ) (back : Bool) → Decides (report_state c d back) (state_report_refusal c d back) 0
report_state_decides c d back = then_zero (state_decides c) (λ w. report_decides c d back)

states_decide : (xs : List ArrayState) → Decides (states xs) (list_refusal xs) 0
unfolding list_refusal
states_decide [] = record { cases = (refl, refl) }
states_decide (c ∷ cs) = then_zero (state_decides c) (λ w. states_decide cs)

pub report_disk_decides : (xs : List ArrayState) (i d : ℕ) (back : Bool) → Decides (report_disk xs i d back) (report_refusal xs i d back) 0
report_disk_decides xs i d back =
    let c = get_or xs i no_array in
    then_zero
    (test_or (leb (length xs) i) (ltb 64 (length xs)) 19 (leb-false (length xs) i) (lt-leb (length xs) i) (ltb-false 64 (length xs)) (le-ltb 64 (length xs)))
    (λ w. then_zero (states_decide xs) (λ v. report_decides c d back))
