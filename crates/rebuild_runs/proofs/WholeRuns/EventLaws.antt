-- One event of a run: an accepted one is for the next stripe, and moves next on by one, a skip
-- skipped too; a refused one leaves the record; one in turn, on slices of the lengths required, is
-- accepted.
use mathlib.Core.Path.{◌≡◌, refl, sym, ap, ap₂, ◌∙◌}
use mathlib.Core.Bool.{Bool, true, false, ◌||◌, not}
use mathlib.Core.List.{List, ◌∷◌}
use Prim.Native.Nat.{ℕ, ◌+◌, ◌*◌, ◌≤◌, ◌<◌}
use native.Mathlib.Omega.{arith}
use lib.Dec.{eqb}
use lib.ListN.{length}
use borrow.Author.Tests.{lt-leb}
use Rattle.mathematics.specs.Choice.{pick, when, first_of}
use Rattle.mathematics.proofs.Flags.{and_l, and_r}
use Rattle.liberation.specs.Stripes.Stripes.{stripe_long}
use Rattle.refusals.proofs.AnswerLaws.{answers_none}
use Rattle.rebuild_runs.specs.declared.Run.{Run}
use Rattle.rebuild_runs.specs.Runs.{run_refusal, read_refusal, next_refusal, skip_refusal, moved_by, SkipSays}
use Rattle.rebuild_runs.specs.StepSays.{run_step_refusal, run_column, StepSays}
use Rattle.rebuild_runs.proofs.RunRefusals.{skipped_few, read_passed, skip_passed}
use Rattle.rebuild_runs.proofs.StepRefusals.{step_passed}
use Rattle.rebuild_runs.specs.WholeRuns.EventSeries.{MadeStep, MadeSkip, Event, step_of, skip_of, which_of, refusal_of, run_of, is_long, steps_among, skips_among, columns_of, rebuilt_each}

-- what an event counts, as a step and as a skip
abbrev pub as_step : Event → ℕ
as_step (step_of c) = 1
as_step (skip_of c) = 0

abbrev pub as_skip : Event → ℕ
as_skip (step_of c) = 0
as_skip (skip_of c) = 1

pub one_event : (e : Event) → as_step e + as_skip e ≡ 1
one_event (step_of c) = refl
one_event (skip_of c) = refl

pub steps_first : (e : Event) (es : List Event) → length (steps_among (e ∷ es)) ≡ as_step e + length (steps_among es)
unfolding steps_among
steps_first (step_of c) es = omega arith
steps_first (skip_of c) es = omega arith

pub skips_first : (e : Event) (es : List Event) → length (skips_among (e ∷ es)) ≡ as_skip e + length (skips_among es)
unfolding skips_among
skips_first (step_of c) es = omega arith
skips_first (skip_of c) es = omega arith

-- the record with next n and j skipped
abbrev pub at : ℕ → ℕ → Run → Run
at n j x = record { shape = x.shape; lost = x.lost; stripes = x.stripes; next = n; skipped = j }

-- the rebuilt disk of each step's own stripe, for the record's disk
abbrev pub each : Run → List MadeStep → List (List ℕ)
each x cs = rebuilt_each x.shape.width x.shape.disks x.shape.cell_size x.lost cs

pub record Accepted (x : Run) (e : Event) : Type 0 where
  pub run : run_of e ≡ at (x.next + 1) (x.skipped + as_skip e) x
  pub few : x.skipped ≤ x.next
  pub which : which_of e ≡ x.next
  pub room : x.next < x.stripes
  pub columns : (es : List Event) → columns_of (steps_among es) ≡ each x (steps_among es) → columns_of (steps_among (e ∷ es)) ≡ each x (steps_among (e ∷ es))

-- an event on the record x
pub record Turn (x : Run) (e : Event) : Type 0 where
  pub taken : refusal_of e ≡ 0 → Accepted x e
  pub stood : eqb (refusal_of e) 0 ≡ false → run_of e ≡ x
  pub goes : read_refusal x ≡ 0 → is_long x.shape.width x.shape.disks x.shape.cell_size e ≡ true → eqb (which_of e) x.next ≡ true → x.next < x.stripes → refusal_of e ≡ 0

-- a record whose numbers are accepted can be read
pub readable : (x : Run) → run_refusal x ≡ 0 → x.skipped ≤ x.next → read_refusal x ≡ 0
readable x r l = ap₂ first_of r (skipped_few x l)

-- the next stripe's number is accepted
in_turn : (x : Run) (i : ℕ) → eqb i x.next ≡ true → x.next < x.stripes → next_refusal x i ≡ 0
in_turn x i w l = ap₂ (λ (a b : Bool). when (a || not b) 10) (lt-leb x.stripes x.next l) w

pub step_turn : (x : Run) (c : MadeStep) → StepSays x c.run c.which c.stripe c.column c.left c.answer → Turn x (step_of c)
unfolding steps_among columns_of rebuilt_each
step_turn x c k =
    let refusal = run_step_refusal x c.which c.stripe c.column in
    let next : (n : ℕ) → Run = λ n. pick (eqb n 0) (moved_by x 0) x in
    record {
      taken = λ z.
          let e : refusal ≡ 0 = answers_none refusal c.answer k.answer z in
          let q = step_passed x c.which c.stripe c.column e in
          record {
            run = k.run ∙ ap next e;
            few = q.1.0;
            which = q.1.1.0;
            room = q.1.1.1;
            columns = λ es h. ap₂ (λ (a : List ℕ) (l : List (List ℕ)). a ∷ l) (k.column ∙ ap (λ (n : ℕ). pick (eqb n 0) (run_column x c.stripe) c.column) e) h;
          };
      stood = λ z. k.run ∙ ap (λ (b : Bool). pick b (moved_by x 0) x) (ap (λ (n : ℕ). eqb n 0) (sym k.answer.refusal) ∙ z);
      goes = λ r l w m.
          let t = eqb (length c.stripe) (stripe_long x.shape.width x.shape.disks x.shape.cell_size) in
          let u = eqb (length c.column) (x.shape.width * x.shape.cell_size) in
          let q = read_passed x r in
          let five = ap₂ (λ (a b : Bool). first_of (when (not a) 5) (when (not b) 5)) (and_l t u l) (and_r t u l) in
          k.answer.refusal ∙ ap₂ first_of (ap₂ first_of q.0 five) (ap₂ first_of (skipped_few x q.1) (in_turn x c.which w m));
    }

pub skip_turn : (x : Run) (c : MadeSkip) → SkipSays x c.run c.which c.answer → Turn x (skip_of c)
unfolding steps_among
skip_turn x c k =
    let refusal = skip_refusal x c.which in
    record {
      taken = λ z.
          let e : refusal ≡ 0 = answers_none refusal c.answer k.answer z in
          let q = skip_passed x c.which e in
          record {
            run = k.run ∙ ap (λ (n : ℕ). pick (eqb n 0) (moved_by x 1) x) e;
            few = q.0;
            which = q.1.0;
            room = q.1.1;
            columns = λ es h. h;
          };
      stood = λ z. k.run ∙ ap (λ (b : Bool). pick b (moved_by x 1) x) (ap (λ (n : ℕ). eqb n 0) (sym k.answer.refusal) ∙ z);
      goes = λ r l w m. k.answer.refusal ∙ ap₂ first_of r (in_turn x c.which w m);
    }
