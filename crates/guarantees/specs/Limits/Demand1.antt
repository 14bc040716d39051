-- Demand 1 of every call: "Refused, by a number from document 01: a width, cell size, disk, disk
-- pair, slice length, plan, run step, package size or program input outside its limits, with all
-- lent memory as before the call. Every other input is accepted."
-- The limits of each call stand in `Calls`. A prime is what a call leaves in what was lent; of a
-- call that writes none, every other field of its answer is zero or false.
use Rattle.std.specs.Prelude.{◌≡◌, Bool, false, List, [], ℕ}
use Rattle.refusals.specs.declared.answer.Answer.{Answer}
use Rattle.planner.specs.StepRecords.{Holds}
use Rattle.planner.specs.declared.Plan.{Plan}
use Rattle.planner.specs.PlanSays.{PlanSays}
use Rattle.planner.specs.ReadListSays.{ListSays}
use Rattle.planner.specs.BalancedPlanSays.{BalancedSays}
use Rattle.planner.specs.ReliefPlanSays.{ReliefSays}
use Rattle.planner.specs.FewestPlanSays.{FewestSays}
use Rattle.host_plans.specs.PlanListSays.{PlanListSays}
use Rattle.host_plans.specs.RebuildByPlanSays.{ByPlanSays}
use Rattle.rebuild_one.specs.RebuildBalancedSays.{BalancedOneSays}
use Rattle.judge.specs.declared.all_steps.Judged.{Judged}
use Rattle.judge.specs.JudgeSays.{JudgeSays}
use Rattle.plan_texts.specs.JudgeTextSays.{JudgeTextSays}
use Rattle.plan_texts.specs.declared.plain.Written.{Written}
use Rattle.plan_texts.specs.PlainTextSays.{WriteSays, PlainSays}
use Rattle.printed_plan.specs.Input.{first_value, second_value}
use Rattle.printed_plan.specs.declared.Text.{Text}
use Rattle.printed_plan.specs.Text.{plan_text, refused_line}
use Rattle.printed_plan.specs.Says.{TextIs, TextSays}
use Rattle.encode.specs.Says.{EncodeSays}
use Rattle.scrub.specs.declared.clean.Checked.{Checked}
use Rattle.scrub.specs.CheckSays.{CheckSays}
use Rattle.scrub.specs.declared.Scrubbed.{Scrubbed}
use Rattle.scrub.specs.ScrubSays.{ScrubSays}
use Rattle.rebuild_one.specs.RebuildOneSays.{OneSays}
use Rattle.rebuild_tested.specs.Says.{TestedSays}
use Rattle.rebuild_two.specs.Says.{TwoSays}
use Rattle.update.specs.Says.{UpdateSays}
use Rattle.rebuild_cells.specs.Says.{RebuildCellsSays}
use Rattle.parity_server.specs.Says.{WriteServerSays, RebuildServerSays}
use Rattle.rebuild_runs.specs.declared.Run.{Run}
use Rattle.rebuild_runs.specs.declared.RunAnswer.{RunAnswer}
use Rattle.rebuild_runs.specs.Runs.{SkipSays}
use Rattle.rebuild_runs.specs.Starts.{no_run, OpenSays}
use Rattle.rebuild_runs.specs.StepSays.{StepSays}
use Rattle.rebuild_runs.specs.declared.progress.Progress.{Progress}
use Rattle.rebuild_runs.specs.ProgressSays.{ProgressSays}
use Rattle.billing.specs.declared.Bill.{Bill}
use Rattle.billing.specs.Bills.{BillSays, RunBillSays}
use Rattle.space.specs.declared.Space.{Space}
use Rattle.space.specs.Says.{SpaceSays}
use Rattle.array_states.specs.declared.ArrayState.{ArrayState}
use Rattle.array_states.specs.States.{StateAnswer, StateSays}
use Rattle.array_states.specs.Scanning.{no_totals}
use Rattle.array_states.specs.declared.board.Board.{Board}
use Rattle.array_states.specs.Reports.{ReportSays}
use Rattle.image_layout.specs.declared.Layout.{Layout}
use Rattle.image_layout.specs.declared.Image.{Image}
use Rattle.image_layout.specs.declared.Place.{Place}
use Rattle.image_layout.specs.declared.UnitPlace.{UnitPlace}
use Rattle.image_layout.specs.declared.FilmPlace.{FilmPlace}
use Rattle.image_layout.specs.Says.{ImageSays, CellSays, BlockSays as BlockPlaceSays, UnitSays, FilmSays}
use Rattle.unit_sums.specs.Sealing.{SealSays}
use Rattle.unit_sums.specs.OneBlock.{BlockSays}
use Rattle.unit_sums.specs.OnePiece.{FitSays}
use Rattle.unit_opening.specs.Says.{OpenSays as OpenUnitSays}
use Rattle.unit_film.specs.Says.{FilmBytesSays}
use Rattle.guarantees.specs.Limits.Limits.{Refuses}
use Rattle.guarantees.specs.Limits.UnitCalls.{seal_unit, open_unit, film_bytes, block_fits, piece_fits}
use Rattle.guarantees.specs.Limits.ImageCalls.{layout, cell_place, block_place, unit_place, film_place}
use Rattle.guarantees.specs.Limits.Calls.{plan, relief_plan, plan_list, read_list, judge_plan, judge_text, write_plan, plain_text, program, on_stripe, rebuild_one, rebuild_by_plan, rebuild_tested, rebuild_two, update_cell, rebuild_cells, write_server, rebuild_server, open_run, read_run, skip_stripe, step_run, bill_bytes, bill_run, package_space, report_state, report_disk}

-- the plan program prints no answer but a text: our plan, or the line of a refusal
pub record Prints (t : List ℕ) (r : Text) : Type 0 where
  pub answer : Answer
  pub refuses : Refuses (program t) (TextIs (refused_line answer.refusal) r) answer
  pub prints : answer.refusal ≡ 0 → TextIs (plan_text (first_value t) (second_value t)) r

abbrev pub NoBill : Bill → Type 0
NoBill x = (x.first ≡ 0) × (x.second ≡ 0) × (x.third ≡ 0) × (x.cents ≡ 0)

pub record Demand1 : Type 0 where
  -- plans
  pub plan_disk : (p k f : ℕ) (r : Plan) → PlanSays p k f r → Refuses (plan p k f) (Holds [] r.steps × (r.routes ≡ 0) × (r.reads ≡ 0)) r.answer
  pub balanced_plan : (p k f : ℕ) (r : Plan) → BalancedSays p k f r → Refuses (plan p k f) (Holds [] r.steps × (r.routes ≡ 0) × (r.reads ≡ 0)) r.answer
  pub relief_plan_lem : (p k f c : ℕ) (r : Plan) → ReliefSays p k f c r → Refuses (relief_plan p k f c) (Holds [] r.steps × (r.routes ≡ 0) × (r.reads ≡ 0)) r.answer
  pub fewest_plan : (p k f : ℕ) (r : Plan) → FewestSays p k f r → Refuses (plan p k f) (Holds [] r.steps × (r.routes ≡ 0) × (r.reads ≡ 0)) r.answer
  pub plan_list_lem : (p k f : ℕ) (bs o o' : List ℕ) (r : Answer) → PlanListSays p k f bs o o' r → Refuses (plan_list p k f bs o) (o' ≡ o) r
  pub read_list_lem : (p k f : ℕ) (o o' : List ℕ) (r : Answer) → ListSays p k f o o' r → Refuses (read_list p k f o) (o' ≡ o) r
  pub judge_plan_lem : (p k f : ℕ) (bs : List ℕ) (r : Judged) → JudgeSays p k f bs r → Refuses (judge_plan p k f bs) (r.reads ≡ 0) r.answer
  pub judge_text_lem : (p k f : ℕ) (t : List ℕ) (r : Judged) → JudgeTextSays p k f t r → Refuses (judge_text p k f t) (r.reads ≡ 0) r.answer
  pub write_plan_lem : (p k f : ℕ) (bs o o' : List ℕ) (r : Written) → WriteSays p k f bs o o' r → Refuses (write_plan p k f bs o) ((o' ≡ o) × (r.length ≡ 0)) r.answer
  pub plain_text_lem : (p k f : ℕ) (t o o' : List ℕ) (r : Written) → PlainSays p k f t o o' r → Refuses (plain_text p k f t o) ((o' ≡ o) × (r.length ≡ 0)) r.answer
  pub plan_text_lem : (t : List ℕ) (r : Text) → TextSays t r → Prints t r
  -- stripes
  pub encode_stripe : (p k s : ℕ) (t t' : List ℕ) (r : Answer) → EncodeSays p k s t t' r → Refuses (on_stripe p k s t) (t' ≡ t) r
  pub check_stripe : (p k s : ℕ) (t : List ℕ) (r : Checked) → CheckSays p k s t r → Refuses (on_stripe p k s t) (r.clean ≡ false) r.answer
  pub scrub_stripe : (p k s : ℕ) (t : List ℕ) (r : Scrubbed) → ScrubSays p k s t r → Refuses (on_stripe p k s t) ((r.verdict ≡ 0) × (r.disk ≡ 0)) r.answer
  pub rebuild_one_lem : (p k s f : ℕ) (t o o' : List ℕ) (r : Answer) → OneSays p k s f t o o' r → Refuses (rebuild_one p k s f t o) (o' ≡ o) r
  pub rebuild_balanced : (p k s f : ℕ) (t o o' : List ℕ) (r : Answer) → BalancedOneSays p k s f t o o' r → Refuses (rebuild_one p k s f t o) (o' ≡ o) r
  pub rebuild_by_plan_lem : (p k s f : ℕ) (bs t o o' : List ℕ) (r : Answer) → ByPlanSays p k s f bs t o o' r → Refuses (rebuild_by_plan p k s f bs t o) (o' ≡ o) r
  pub rebuild_tested_lem : (p k s f : ℕ) (t o o' : List ℕ) (r : Answer) → TestedSays p k s f t o o' r → Refuses (rebuild_tested p k s f t o) (o' ≡ o) r
  pub rebuild_two_lem : (p k s a b : ℕ) (t t' : List ℕ) (r : Answer) → TwoSays p k s a b t t' r → Refuses (rebuild_two p k s a b t) (t' ≡ t) r
  pub update_cell_lem : (p k s i c : ℕ) (t new t' : List ℕ) (r : Answer) → UpdateSays p k s i c t new t' r → Refuses (update_cell p k s i c t new) (t' ≡ t) r
  pub rebuild_cells_lem : (p k s : ℕ) (ms t t' : List ℕ) (r : Answer) → RebuildCellsSays p k s ms t t' r → Refuses (rebuild_cells p k s ms t) (t' ≡ t) r
  -- places in images
  pub image_bytes : (l : Layout) (r : Image) → ImageSays l r → Refuses (layout l) ((r.stripes ≡ 0) × (r.units ≡ 0) × (r.end ≡ 0) × (r.bytes ≡ 0)) r.answer
  pub cell_place_lem : (l : Layout) (i n : ℕ) (r : Place) → CellSays l i n r → Refuses (cell_place l i n) ((r.at ≡ 0) × (r.bytes ≡ 0)) r.answer
  pub block_place_lem : (l : Layout) (v : ℕ) (r : Place) → BlockPlaceSays l v r → Refuses (block_place l v) ((r.at ≡ 0) × (r.bytes ≡ 0)) r.answer
  pub unit_place_lem : (l : Layout) (i v : ℕ) (r : UnitPlace) → UnitSays l i v r → Refuses (unit_place l i v) ((r.first ≡ 0) × (r.stripes ≡ 0) × (r.at ≡ 0) × (r.bytes ≡ 0)) r.answer
  pub film_place_lem : (l : Layout) (n : ℕ) (r : FilmPlace) → FilmSays l n r → Refuses (film_place l n) ((r.stripe ≡ 0) × (r.disk ≡ 0) × (r.row ≡ 0) × (r.byte ≡ 0) × (r.at ≡ 0)) r.answer
  -- units; `block_fits` and `piece_fits` write nothing
  pub seal_unit_lem : (p k s n : ℕ) (name : List ℕ) (v : ℕ) (t b b' : List ℕ) (r : Answer) → SealSays p k s n name v t b b' r → Refuses (seal_unit p k s n name b t) (b' ≡ b) r
  pub open_unit_lem : (p k s n : ℕ) (name : List ℕ) (v : ℕ) (b ms ms' t t' : List ℕ) (r : Answer) → OpenUnitSays p k s n name v b ms ms' t t' r → Refuses (open_unit p k s n name v b ms t) ((ms' ≡ ms) × (t' ≡ t)) r
  pub film_bytes_lem : (p k s n : ℕ) (name : List ℕ) (v : ℕ) (b t : List ℕ) (i : ℕ) (o o' : List ℕ) (r : Answer) → FilmBytesSays p k s n name v b t i o o' r → Refuses (film_bytes p k s n name v b t i o) (o' ≡ o) r
  pub block_fits_lem : (p k : ℕ) (name : List ℕ) (v : ℕ) (b : List ℕ) (r : Answer) → BlockSays p k name v b r → Refuses (block_fits p k name v b) Unit r
  pub piece_fits_lem : (p k s n : ℕ) (name : List ℕ) (v : ℕ) (b : List ℕ) (c i : ℕ) (x : List ℕ) (r : Answer) → FitSays p k s n name v b c i x r → Refuses (piece_fits p k s n name v b c i x) Unit r
  -- servers
  pub write_server_lem : (p k s m : ℕ) (ts ts' : List ℕ) (r : Answer) → WriteServerSays p k s m ts ts' r → Refuses (write_server p k s m ts) (ts' ≡ ts) r
  pub rebuild_server_lem : (p k s m j : ℕ) (ts ls ts' : List ℕ) (r : Answer) → RebuildServerSays p k s m j ts ls ts' r → Refuses (rebuild_server p k s m j ts ls) (ts' ≡ ts) r
  -- runs
  pub open_run_lem : (p k s f n : ℕ) (r : RunAnswer) → OpenSays p k s f n r → Refuses (open_run p k s f) (r.run ≡ no_run) r.answer
  pub step_run_lem : (x x' : Run) (i : ℕ) (t o o' : List ℕ) (r : Answer) → StepSays x x' i t o o' r → Refuses (step_run x i t o) ((x' ≡ x) × (o' ≡ o)) r
  pub skip_stripe_lem : (x x' : Run) (i : ℕ) (r : Answer) → SkipSays x x' i r → Refuses (skip_stripe x i) (x' ≡ x) r
  pub run_progress : (x : Run) (r : Progress) → ProgressSays x r → Refuses (read_run x) ((r.over ≡ false) × (r.cells ≡ 0)) r.answer
  -- bills and space; that a run's bytes are never too many rests on what reading its record
  -- promises
  pub bill_bytes_lem : (n a b c : ℕ) (x : Bill) → BillSays n a b c x → Refuses (bill_bytes n a b c) (NoBill x) x.answer
  pub bill_run_lem : (x : Run) (a b c : ℕ) (y : Bill) (g : Progress) → RunBillSays x a b c y → ProgressSays x g → Refuses (bill_run x a b c) (NoBill y) y.answer
  pub package_space_lem : (p k s : ℕ) (ls : List ℕ) (free : ℕ) (r : Space) → SpaceSays p k s ls free r → Refuses (package_space p k s ls) ((r.stripes ≡ 0) × (r.bytes ≡ 0) × (r.fits ≡ false)) r.answer
  -- states of arrays
  pub report_state_lem : (c : ArrayState) (d : ℕ) (back : Bool) (r : StateAnswer) → StateSays c d back r → Refuses (report_state c d back) (r.state ≡ c) r.answer
  pub report_disk_lem : (xs : List ArrayState) (i d : ℕ) (back : Bool) (ys : List ArrayState) (r : Board) → ReportSays xs i d back ys r → Refuses (report_disk xs i d back) ((ys ≡ xs) × (r.totals ≡ no_totals)) r.answer
