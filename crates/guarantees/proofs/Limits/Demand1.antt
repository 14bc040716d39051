-- Demand 1 of every call: its refusals decide its limits, and a refused call leaves all that was
-- lent.
use mathlib.Core.Path.{◌≡◌, refl, sym, ap, ◌∙◌, subst}
use mathlib.Core.Bool.{Bool, false, ◌&&◌}
use mathlib.Core.List.{List, []}
use Prim.Native.Nat.{ℕ, ◌+◌, ◌*◌}
use lib.Dec.{eqb}
use lib.ListN.{length}
use Rattle.mathematics.specs.Choice.{pick}
use Rattle.mathematics.proofs.ChoiceLaws.{pick_refused, and_refused}
use Rattle.liberation.specs.Sets.{plan_refusal, numbers_refusal}
use Rattle.liberation.specs.Plans.{Step, plan_of, route_word}
use Rattle.liberation.specs.Judging.{steps_in, judge}
use Rattle.liberation.specs.Scrub.Survivors.{suspect, verdict}
use Rattle.plan_texts.specs.Form.Reading.{steps_read}
use Rattle.refusals.specs.declared.answer.Answer.{Answer}
use Rattle.liberation.specs.BalancedPlan.Balanced.{balanced_plan}
use Rattle.liberation.specs.ReliefPlan.Relief.{relief_plan as relief_steps}
use Rattle.liberation.specs.FewestPlan.Fewest.{fewest_plan}
use Rattle.planner.specs.StepRecords.{Holds}
use Rattle.planner.specs.declared.Plan.{Plan}
use Rattle.planner.specs.PlanSays.{GivesPlan}
use Rattle.planner.specs.BalancedStepsSays.{balanced_word}
use Rattle.planner.specs.ReliefPlanSays.{relief_refusal, relief_word}
use Rattle.planner.specs.FewestPlanSays.{fewest_word}
use Rattle.host_plans.specs.PlanListSays.{lists_refusal}
use Rattle.host_plans.specs.RebuildByPlanSays.{call_refusal as by_plan_refusal}
use Rattle.planner.specs.ReadListSays.{read_list_refusal}
use Rattle.judge.specs.declared.all_steps.Judged.{Judged}
use Rattle.judge.specs.JudgeSays.{form_refusal, DecidesOn}
use Rattle.plan_texts.specs.JudgeTextSays.{judge_first, all_refusals, Judges}
use Rattle.plan_texts.specs.declared.plain.Written.{Written}
use Rattle.plan_texts.specs.PlainTextSays.{write_first, plain_first, Writes}
use Rattle.printed_plan.specs.declared.Text.{Text}
use Rattle.printed_plan.specs.Says.{TextIs, TextSays}
use Rattle.printed_plan.specs.Text.{input_refusal}
use Rattle.printed_plan.proofs.PrintedLaws.{printed_refusal, printed_plan}
use Rattle.refusals.specs.StripeSays.{stripe_refusal}
use Rattle.rebuild_one.specs.RebuildOneSays.{one_refusal}
use Rattle.rebuild_tested.specs.Says.{tested_refusal}
use Rattle.rebuild_two.specs.Says.{two_refusal}
use Rattle.update.specs.Says.{update_refusal}
use Rattle.rebuild_cells.specs.Says.{mend_refusal}
use Rattle.liberation.specs.ParityServer.Servers.{write_refusal, rebuild_refusal}
use Rattle.rebuild_runs.specs.Runs.{read_refusal, skip_refusal}
use Rattle.rebuild_runs.specs.StepSays.{run_step_refusal}
use Rattle.billing.specs.Cents.{bill_refusal}
use Rattle.billing.specs.declared.Bill.{Bill}
use Rattle.billing.specs.Bills.{run_bytes, run_bill_refusal, Says}
use Rattle.space.specs.Refusals.{space_refusal}
use Rattle.array_states.specs.States.{state_report_refusal}
use Rattle.array_states.specs.Reports.{report_refusal}
use Rattle.image_layout.specs.declared.Place.{Place}
use Rattle.image_layout.specs.Limits.{layout_refusal, cell_refusal, block_refusal, unit_refusal as image_unit_refusal, film_refusal}
use Rattle.image_layout.specs.Says.{PlaceSays}
use Rattle.guarantees.specs.Limits.ImageCalls.{cell_place, block_place}
use Rattle.unit_sums.specs.Refusals.{unit_refusal}
use Rattle.unit_opening.specs.Refusals.{open_refusal}
use Rattle.unit_film.specs.Says.{film_bytes_refusal}
use Rattle.guarantees.specs.Limits.Limits.{Limits, ◌then◌, Decides, Refuses}
use Rattle.guarantees.specs.Limits.Calls.{plan, relief_plan, shape, disk, stripe, long, steps, text, room, bill_bytes, bill_run}
use Rattle.guarantees.specs.Limits.Demand1.{Prints, NoBill, Demand1}
use Rattle.guarantees.proofs.Limits.LimitLaws.{refuses, refuses_at, kept}
use Rattle.guarantees.proofs.Limits.SharedLimits.{plan_decides, numbers_decide}
use Rattle.guarantees.proofs.Limits.UnitCallLimits.{seal_decides, open_decides, film_decides, guard_decides, fit_decides}
use Rattle.guarantees.proofs.Limits.ImageCallLimits.{layout_decides, cell_decides, block_decides, unit_decides, film_decides as film-place-decides}
use Rattle.guarantees.proofs.Limits.CallLimits.{list_decides, relief_decides, lists_decide, by_plan_decides, judge_decides, form_decides, first_decides, write_decides, plain_decides, program_decides, stripe_decides, one_decides, tested_decides, two_decides, update_decides, mend_decides, write_server_decides, rebuild_server_decides, read_decides, skip_decides, step_run_decides, bill_decides, run_bill_decides, space_decides, report_state_decides, report_disk_decides}

-- the steps of a refused plan
no_steps : {A B : Type 0} (n m : ℕ) (H : A → B → Type 0) (x y : A) (r : B) → n ≡ m → H (pick (eqb m 0) x y) r → (n ≡ 0 → ⊥) → H y r
no_steps n m H x y r e h z = subst (λ l. H l r) (sym (pick_refused n m x y e z)) h

-- a flag of a refused call
no_flag : (n m : ℕ) (x y : Bool) → n ≡ m → y ≡ (eqb m 0 && x) → (n ≡ 0 → ⊥) → y ≡ false
no_flag n m x y e h z = h ∙ sym (and_refused n m x e z)

judged : (ls : Limits) (n p k f : ℕ) (ss : List Step) (r : Judged) → Decides ls n 0 → Judges n p k f ss r → Refuses (ls then steps 0 p k f [] ss) (r.reads ≡ 0) r.answer
judged ls n p k f ss r d j =
    refuses_at r.answer (judge_decides ls n p k f ss d) j.refusal j.place
    (kept r.answer.refusal (all_refusals n p k f ss) _ _ _ j.refusal j.reads)

wrote : (ls : Limits) (n p k f : ℕ) (ss : List Step) (o o' : List ℕ) (r : Written) → Decides ls n 0 → Writes n p k f ss o o' r → Refuses (ls then steps 0 p k f [] ss) ((o' ≡ o) × (r.length ≡ 0)) r.answer
wrote ls n p k f ss o o' r d w =
    refuses_at r.answer (judge_decides ls n p k f ss d) w.refusal w.place
    (λ z. (kept r.answer.refusal (all_refusals n p k f ss) _ _ _ w.refusal w.bytes z, kept r.answer.refusal (all_refusals n p k f ss) _ _ _ w.refusal w.size z))

-- a call on the bytes of a host's plan that writes lent memory
decided : (ls : Limits) (n p k f : ℕ) (ss : List Step) (new o o' : List ℕ) (r : Answer) → Decides ls n 0 → DecidesOn n (judge p k f ss) new o o' r → Refuses (ls then steps 0 p k f [] ss) (o' ≡ o) r
decided ls n p k f ss new o o' r d w = refuses_at r (judge_decides ls n p k f ss d) w.refusal w.place (kept r.refusal (all_refusals n p k f ss) _ _ _ w.refusal w.lent)

-- a planner that refuses by n
planned : (ls : Limits) (p k f n : ℕ) (ss : List Step) (w : ℕ) (r : Plan) → Decides ls n 0 → GivesPlan p k f n ss w r → Refuses ls (Holds [] r.steps × (r.routes ≡ 0) × (r.reads ≡ 0)) r.answer
planned ls p k f n ss w r d g =
    let e = g.answer.refusal in
    refuses r.answer d g.answer (λ z. (no_steps r.answer.refusal n Holds ss [] r.steps e g.steps z, kept _ n _ _ _ e g.routes z, kept _ n _ _ _ e g.reads z))

printed_so : (t : List ℕ) (r : Text) → TextSays t r → Prints t r
printed_so t r d =
    let n = input_refusal t in
    let a : Answer = record { refusal = n; place = 0 } in
    record {
      answer = a;
      refuses = refuses a (program_decides t) (record { refusal = refl; place = refl }) (λ z. subst (λ l. TextIs l r) (printed_refusal t n refl z) d);
      prints = λ z. subst (λ l. TextIs l r) (printed_plan t z) d;
    }

billed : (ls : Limits) (n b r s t : ℕ) (x : Bill) → Decides ls n 0 → Says n b r s t x → Refuses ls (NoBill x) x.answer
billed ls n b r s t x d y =
    let e = y.answer.refusal in
    let m = x.answer.refusal in
    refuses x.answer d y.answer (λ z. (kept m n _ _ _ e y.first z, kept m n _ _ _ e y.second z, kept m n _ _ _ e y.third z, kept m n _ _ _ e y.cents z))

-- a place in an image
placed : (ls : Limits) (n a b : ℕ) (r : Place) → Decides ls n 0 → PlaceSays n a b r → Refuses ls ((r.at ≡ 0) × (r.bytes ≡ 0)) r.answer
placed ls n a b r d y =
    let e = y.answer.refusal in
    refuses r.answer d y.answer (λ z. (kept r.answer.refusal n _ _ _ e y.at z, kept r.answer.refusal n _ _ _ e y.bytes z))

pub demand1 : Demand1
demand1 =
    record {
      plan_disk = λ p k f r d. planned (plan p k f) p k f (plan_refusal p k f) (plan_of p k f) (route_word p k f) r (plan_decides p k f) d;
      balanced_plan = λ p k f r d. planned (plan p k f) p k f (plan_refusal p k f) (balanced_plan p k f) (balanced_word p k f) r (plan_decides p k f) d;
      relief_plan_lem = λ p k f c r d. planned (relief_plan p k f c) p k f (relief_refusal p k f c) (relief_steps p k f c) (relief_word p k f c) r (relief_decides p k f c) d;
      fewest_plan = λ p k f r d. planned (plan p k f) p k f (plan_refusal p k f) (fewest_plan p k f) (fewest_word p k f) r (plan_decides p k f) d;
      plan_list_lem = λ p k f bs o o' r d. decided (plan p k f then (long (3 * p) bs then long (p * (k + 2)) o)) (lists_refusal p k f bs o) p k f (steps_in p bs) _ o o' r (lists_decide p k f bs o) d;
      read_list_lem = λ p k f o o' r d. refuses r (list_decides p k f o) d.answer (kept _ (read_list_refusal p k f o) _ _ _ d.answer.refusal d.list);
      judge_plan_lem = λ p k f bs r d. judged (plan p k f then long (3 * p) bs) (form_refusal p k f bs) p k f (steps_in p bs) r (form_decides p k f bs) (record { refusal = d.refusal; place = d.place; reads = d.reads });
      judge_text_lem = λ p k f t r d. judged (plan p k f then text p t) (judge_first p k f t) p k f (steps_read p t) r (first_decides p k f t) d;
      write_plan_lem = λ p k f bs o o' r d. wrote (room p k f o then long (3 * p) bs) (write_first p k f bs o) p k f (steps_in p bs) o o' r (write_decides p k f bs o) d;
      plain_text_lem = λ p k f t o o' r d. wrote (room p k f o then text p t) (plain_first p k f t o) p k f (steps_read p t) o o' r (plain_decides p k f t o) d;
      plan_text_lem = printed_so;
      encode_stripe = λ p k s t t' r d. refuses r (stripe_decides p k s t) d.answer (kept _ (stripe_refusal p k s t) _ _ _ d.answer.refusal d.stripe);
      check_stripe = λ p k s t r d. refuses r.answer (stripe_decides p k s t) d.answer (no_flag _ (stripe_refusal p k s t) _ _ d.answer.refusal d.clean);
      scrub_stripe = λ p k s t r d.
          let n = stripe_refusal p k s t in
          let e = d.answer.refusal in
          refuses r.answer (stripe_decides p k s t) d.answer (λ z. (kept _ n _ _ _ e d.verdict z, d.disk ∙ sym (ap (λ (b : Bool). pick b (suspect p k s t) 0) (and_refused r.answer.refusal n (eqb (verdict p k s t) 1) e z))));
      rebuild_one_lem = λ p k s f t o o' r d. refuses r (one_decides p k s f t o) d.answer (kept _ (one_refusal p k s f t o) _ _ _ d.answer.refusal d.column);
      rebuild_balanced = λ p k s f t o o' r d. refuses r (one_decides p k s f t o) d.answer (kept _ (one_refusal p k s f t o) _ _ _ d.answer.refusal d.column);
      rebuild_by_plan_lem = λ p k s f bs t o o' r d.
          decided ((shape p k s then disk k f) then (long (3 * p) bs then (stripe p k s t then long (p * s) o))) (by_plan_refusal p k s f bs t o) p k f (steps_in p bs) _ o o' r (by_plan_decides p k s f bs t o) d.decides;
      rebuild_tested_lem = λ p k s f t o o' r d. refuses r (tested_decides p k s f t o d.bytes) d.answer (kept _ (tested_refusal p k s f t o) _ _ _ d.answer.refusal d.column);
      rebuild_two_lem = λ p k s a b t t' r d. refuses r (two_decides p k s a b t) d.answer (kept _ (two_refusal p k s a b t) _ _ _ d.answer.refusal d.stripe);
      update_cell_lem = λ p k s i c t new t' r d. refuses r (update_decides p k s i c t new) d.answer (kept _ (update_refusal p k s i c t new) _ _ _ d.answer.refusal d.stripe);
      rebuild_cells_lem = λ p k s ms t t' r d. refuses r (mend_decides p k s ms t) d.answer (kept _ (mend_refusal p k s ms t) _ _ _ d.answer.refusal d.stripe);
      image_bytes = λ l r d.
          let m = r.answer.refusal in
          let n = layout_refusal l in
          let e = d.answer.refusal in
          refuses r.answer (layout_decides l) d.answer (λ z. (kept m n _ _ _ e d.stripes z, kept m n _ _ _ e d.units z, kept m n _ _ _ e d.end z, kept m n _ _ _ e d.bytes z));
      cell_place_lem = λ l i n r d. placed (cell_place l i n) (cell_refusal l i n) _ _ r (cell_decides l i n) d;
      block_place_lem = λ l v r d. placed (block_place l v) (block_refusal l v) _ _ r (block_decides l v) d;
      unit_place_lem = λ l i v r d.
          let m = r.answer.refusal in
          let n = image_unit_refusal l i v in
          let e = d.answer.refusal in
          refuses r.answer (unit_decides l i v) d.answer (λ z. (kept m n _ _ _ e d.first z, kept m n _ _ _ e d.stripes z, kept m n _ _ _ e d.at z, kept m n _ _ _ e d.bytes z));
      film_place_lem = λ l x r d.
          let m = r.answer.refusal in
          let n = film_refusal l x in
          let e = d.answer.refusal in
          refuses r.answer (film-place-decides l x) d.answer (λ z. (kept m n _ _ _ e d.stripe z, kept m n _ _ _ e d.disk z, kept m n _ _ _ e d.row z, kept m n _ _ _ e d.byte z, kept m n _ _ _ e d.at z));
      seal_unit_lem = λ p k s n name v t b b' r d. refuses r (seal_decides p k s n name b t) d.answer (kept _ (unit_refusal p k s n (length name) (length b) (length t)) _ _ _ d.answer.refusal d.written);
      open_unit_lem = λ p k s n name v b ms ms' t t' r d.
          let n' = open_refusal p k s n name v b ms t in
          let e = d.answer.refusal in
          refuses r (open_decides p k s n name v b ms t) d.answer (λ z. (kept _ n' _ _ _ e d.marks z, kept _ n' _ _ _ e d.cells z));
      film_bytes_lem = λ p k s n name v b t i o o' r d. refuses r (film_decides p k s n name v b t i o) d.answer (kept _ (film_bytes_refusal p k s n name v b t i (length o)) _ _ _ d.answer.refusal d.out);
      block_fits_lem = λ p k name v b r d. refuses r (guard_decides p k name v b) d.answer (λ z. tt);
      piece_fits_lem = λ p k s n name v b c i x r d. refuses r (fit_decides p k s n name v b c i x) d.answer (λ z. tt);
      write_server_lem = λ p k s m ts ts' r d. refuses r (write_server_decides p k s m ts) d.answer (kept _ (write_refusal p k s m ts) _ _ _ d.answer.refusal d.stripes);
      rebuild_server_lem = λ p k s m j ts ls ts' r d. refuses r (rebuild_server_decides p k s m j ts ls) d.answer (kept _ (rebuild_refusal p k s m j ls ts) _ _ _ d.answer.refusal d.stripes);
      open_run_lem = λ p k s f n r d. refuses r.answer (numbers_decide p k s f) d.answer (kept _ (numbers_refusal p k s f) _ _ _ d.answer.refusal d.run);
      step_run_lem = λ x x' i t o o' r d.
          let n = run_step_refusal x i t o in
          let e = d.answer.refusal in
          refuses r (step_run_decides x i t o) d.answer (λ z. (kept _ n _ _ _ e d.run z, kept _ n _ _ _ e d.column z));
      skip_stripe_lem = λ x x' i r d. refuses r (skip_decides x i) d.answer (kept _ (skip_refusal x i) _ _ _ d.answer.refusal d.run);
      run_progress = λ x r d. refuses r.answer (read_decides x) d.answer (λ z. (no_flag _ (read_refusal x) _ _ d.answer.refusal d.over z, kept _ (read_refusal x) _ _ _ d.answer.refusal d.cells z));
      bill_bytes_lem = λ n a b c x d. billed (bill_bytes n a b c) (bill_refusal n a b c) n a b c x (bill_decides n a b c) d;
      bill_run_lem = λ x a b c y g d h. billed (bill_run x a b c) (run_bill_refusal x a b c) (run_bytes x) a b c y (run_bill_decides x a b c g h) d;
      package_space_lem = λ p k s ls free r d.
          let n = space_refusal p k s ls in
          let e = d.answer.refusal in
          refuses r.answer (space_decides p k s ls) d.answer (λ z. (kept _ n _ _ _ e d.stripes z, kept _ n _ _ _ e d.bytes z, no_flag _ n _ _ e d.fits z));
      report_state_lem = λ c d back r h. refuses r.answer (report_state_decides c d back) h.answer (kept _ (state_report_refusal c d back) _ _ _ h.answer.refusal h.state);
      report_disk_lem = λ xs i d back ys r h.
          let n = report_refusal xs i d back in
          let e = h.answer.refusal in
          refuses r.answer (report_disk_decides xs i d back) h.answer (λ z. (kept _ n _ _ _ e h.list z, kept _ n _ _ _ e h.totals z));
    }
