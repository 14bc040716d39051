-- Whole runs: by induction over events made one after another, next grows by the number of accepted
-- ones and skipped by that of accepted skips. So the record is known, and what reading it answers.
use mathlib.Core.Path.{◌≡◌, refl, sym, ap, ap₂, subst, ◌∙◌}
use mathlib.Core.Bool.{Bool, true, ◌&&◌}
use mathlib.Core.List.{List, [], ◌∷◌}
use mathlib.Core.Logic.{⊎_elim}
use Prim.Native.Nat.{ℕ, suc, ◌+◌, ◌-◌, ◌*◌, ◌≤◌}
use native.Mathlib.Nat.{add-mul}
use native.Mathlib.Omega.{arith}
use lib.Dec.{eqb}
use lib.ListN.{length}
use borrow.Author.Tests.{eqb-true, eq-eqb}
use Rattle.mathematics.specs.Choice.{pick}
use Rattle.mathematics.proofs.Flags.{and_l, and_r, and_i, flag}
use Rattle.mathematics.proofs.ChoiceLaws.{pick_done}
use Rattle.liberation.specs.Sets.{numbers_refusal}
use Rattle.liberation.specs.Plans.{plan_of, read_count}
use Rattle.refusals.proofs.AnswerLaws.{answers_none}
use Rattle.rebuild_runs.specs.declared.Run.{Run}
use Rattle.rebuild_runs.specs.declared.RunAnswer.{RunAnswer}
use Rattle.rebuild_runs.specs.declared.progress.Progress.{Progress}
use Rattle.rebuild_runs.specs.Runs.{read_refusal}
use Rattle.rebuild_runs.specs.Starts.{opened, no_run, OpenSays}
use Rattle.rebuild_runs.specs.ProgressSays.{is_over, reads_of, cells_so_far, ProgressSays}
use Rattle.rebuild_runs.proofs.RunRefusals.{read_passed}
use Rattle.rebuild_runs.specs.WholeRuns.EventSeries.{Event, which_of, refusal_of, run_of, EventsMade, step_made, skip_made, last_run, accepted_in, steps_among, skips_among, stepped, skipped, in_order, is_long, all_long, columns_of, rebuilt_each, RunMade, RunOn, RunRead, RunReadOn, CallsRight, CallsOn, CallsGo, CallsGoOn, ProgressRight, ProgressOn}
use Rattle.rebuild_runs.proofs.WholeRuns.EventLaws.{as_skip, one_event, steps_first, skips_first, at, each, Accepted, Turn, readable, step_turn, skip_turn}

-- the first event, and those after it
first_made : (x : Run) (e : Event) (es : List Event) → EventsMade x (e ∷ es) → Turn x e × EventsMade (run_of e) es
first_made x _ _ (step_made _ c es k m) = (step_turn x c k, m)
first_made x _ _ (skip_made _ c es k m) = (skip_turn x c k, m)

-- by its answer: accepted, or the record stands
module _ {A : Type 0} (x : Run) (e : Event) (es : List Event) (t : Turn x e) where
  by_answer : (Accepted x e → accepted_in (e ∷ es) ≡ e ∷ accepted_in es → A) → (run_of e ≡ x → accepted_in (e ∷ es) ≡ accepted_in es → A) → A
  unfolding accepted_in
  by_answer f g =
      let answer : (b : Bool) → List Event = λ b. pick b (e ∷ accepted_in es) (accepted_in es) in
      ⊎_elim (λ z. f (t.taken (eqb-true (refusal_of e) 0 z)) (ap answer z)) (λ z. g (t.stood z) (ap answer z)) (flag (eqb (refusal_of e) 0))

-- what is counted then
counted : (e : Event) (es : List Event) → accepted_in (e ∷ es) ≡ e ∷ accepted_in es → (stepped (e ∷ es) + skipped (e ∷ es) ≡ suc (stepped es + skipped es)) × (skipped (e ∷ es) ≡ as_skip e + skipped es)
counted e es q =
    let m = ap (λ (l : List Event). length (steps_among l)) q ∙ steps_first e (accepted_in es) in
    let j = ap (λ (l : List Event). length (skips_among l)) q ∙ skips_first e (accepted_in es) in
    (omega (arith, m, j, one_event e), j)

abbrev ahead : List Event → Run → Run
ahead es x = at (x.next + (stepped es + skipped es)) (x.skipped + skipped es) x

uncounted : (e : Event) (es : List Event) (x : Run) → accepted_in (e ∷ es) ≡ accepted_in es → ahead es x ≡ ahead (e ∷ es) x
uncounted e es x q = ap (λ (l : List Event). at (x.next + (length (steps_among l) + length (skips_among l))) (x.skipped + length (skips_among l)) x) (sym q)

made_run : (x : Run) (es : List Event) → EventsMade x es → last_run x es ≡ ahead es x
unfolding last_run accepted_in steps_among skips_among
made_run x [] m = let z : (n : ℕ) → n ≡ n + 0 = λ n. omega arith in ap₂ (λ (n j : ℕ). at n j x) (z x.next) (z x.skipped)
made_run x (e ∷ es) m =
    let q = first_made x e es m in
    let rest : last_run (run_of e) es ≡ ahead es (run_of e) = made_run (run_of e) es q.1 in
    by_answer x e es q.0
    (λ a c. let n = counted e es c in
    let u : x.next + 1 + (stepped es + skipped es) ≡ x.next + (stepped (e ∷ es) + skipped (e ∷ es)) = omega (arith, n.0) in
    let v : x.skipped + as_skip e + skipped es ≡ x.skipped + skipped (e ∷ es) = omega (arith, n.1) in
    rest ∙ ap (ahead es) a.run ∙ ap₂ (λ (n j : ℕ). at n j x) u v)
    (λ a c. rest ∙ ap (ahead es) a ∙ uncounted e es x c)

made_few : (x : Run) (es : List Event) → EventsMade x es → x.next ≤ x.stripes → x.next + (stepped es + skipped es) ≤ x.stripes
unfolding accepted_in steps_among skips_among
made_few x [] m l = omega arith
made_few x (e ∷ es) m l =
    let q = first_made x e es m in
    by_answer x e es q.0
    (λ a c. let n : (run_of e).next ≡ x.next + 1 = ap (λ (y : Run). y.next) a.run in
    let s : (run_of e).stripes ≡ x.stripes = ap (λ (y : Run). y.stripes) a.run in
    omega (arith, made_few (run_of e) es q.1 (omega (arith, n, s, a.room)), n, s, (counted e es c).0))
    (λ a c. let n : (run_of e).next ≡ x.next = ap (λ (y : Run). y.next) a in
    let s : (run_of e).stripes ≡ x.stripes = ap (λ (y : Run). y.stripes) a in
    let i = ap (λ (l : List Event). length (steps_among l) + length (skips_among l)) c in
    omega (arith, made_few (run_of e) es q.1 (omega (arith, n, s)), n, s, i))

made_order : (x : Run) (es : List Event) → EventsMade x es → in_order x.next (accepted_in es) ≡ true
unfolding accepted_in in_order
made_order x [] m = refl
made_order x (e ∷ es) m =
    let q = first_made x e es m in
    let rest : in_order (run_of e).next (accepted_in es) ≡ true = made_order (run_of e) es q.1 in
    by_answer x e es q.0
    (λ a c. let z : suc x.next ≡ (run_of e).next = omega (arith, ap (λ (y : Run). y.next) a.run) in
    ap (in_order x.next) c
    ∙ and_i (eqb (which_of e) x.next) (in_order (suc x.next) (accepted_in es)) (eq-eqb (which_of e) x.next a.which) (ap (λ (i : ℕ). in_order i (accepted_in es)) z ∙ rest))
    (λ a c. ap (in_order x.next) c ∙ ap (λ (y : Run). in_order y.next (accepted_in es)) (sym a) ∙ rest)

made_columns : (x : Run) (es : List Event) → EventsMade x es → columns_of (steps_among (accepted_in es)) ≡ each x (steps_among (accepted_in es))
unfolding accepted_in steps_among columns_of rebuilt_each
made_columns x [] m = refl
made_columns x (e ∷ es) m =
    let q = first_made x e es m in
    let rest = made_columns (run_of e) es q.1 in
    let Right : (l : List Event) → Type 0 = λ l. columns_of (steps_among l) ≡ each x (steps_among l) in
    let same : (y : Run) → List (List ℕ) = λ y. each y (steps_among (accepted_in es)) in
    by_answer x e es q.0
    (λ a c. subst Right (sym c) (a.columns (accepted_in es) (rest ∙ ap same a.run)))
    (λ a c. subst Right (sym c) (rest ∙ ap same a))

-- events in turn are accepted, and the record can be read then too
made_go : (x : Run) (es : List Event) → EventsMade x es → read_refusal x ≡ 0 → in_order x.next es ≡ true → all_long x.shape.width x.shape.disks x.shape.cell_size es ≡ true → x.next + length es ≤ x.stripes → accepted_in es ≡ es
unfolding accepted_in in_order all_long
made_go x [] m r o l n = refl
made_go x (e ∷ es) m r o l n =
    let q = first_made x e es m in
    let w = eqb (which_of e) x.next in
    let here = is_long x.shape.width x.shape.disks x.shape.cell_size e in
    let later : (y : Run) → Bool = λ y. all_long y.shape.width y.shape.disks y.shape.cell_size es in
    let z : refusal_of e ≡ 0 = q.0.goes r (and_l here (later x) l) (and_l w (in_order (suc x.next) es) o) (omega arith) in
    let a = q.0.taken z in
    let y : Run = at (x.next + 1) (x.skipped + as_skip e) x in
    let few : y.skipped ≤ y.next = omega (arith, a.few, one_event e) in
    let fine : read_refusal (run_of e) ≡ 0 = ap read_refusal a.run ∙ readable y (read_passed x r).0 few in
    let i : (run_of e).next ≡ suc x.next = ap (λ (v : Run). v.next) a.run ∙ omega arith in
    let room : (run_of e).next + length es ≤ (run_of e).stripes = omega (arith, i, ap (λ (v : Run). v.stripes) a.run) in
    let rest = made_go (run_of e) es q.1 fine (ap (λ (n : ℕ). in_order n es) i ∙ and_r w (in_order (suc x.next) es) o) (ap later a.run ∙ and_r here (later x) l) room in
    ap (λ (n : ℕ). pick (eqb n 0) (e ∷ accepted_in es) (accepted_in es)) z ∙ ap (λ (k : List Event). e ∷ k) rest

pub calls_on : CallsOn
calls_on x es l m =
    let e = made_run x es m in
    let d : (ahead es x).next - (ahead es x).skipped ≡ x.next - x.skipped + stepped es = omega arith in
    record {
      next = ap (λ (y : Run). y.next) e;
      skips = ap (λ (y : Run). y.skipped) e;
      steps = ap (λ (y : Run). y.next - y.skipped) e ∙ d;
      few = made_few x es m;
      over = ap is_over e;
      cells = ap cells_so_far e ∙ ap (λ (n : ℕ). n * reads_of x) d;
      order = made_order x es m;
      columns = made_columns x es m;
    }

-- from a record on that was read without refusal
module _ (x : Run) (es : List Event) (h : Progress) (k : ProgressSays x h) (z : h.answer.refusal ≡ 0) (m : EventsMade x es) where
  fine : read_refusal x ≡ 0
  fine = answers_none (read_refusal x) h.answer k.answer z

  on : RunOn x es
  on = calls_on x es (read_passed x fine).1 m

  -- events leave shape and lost disk, so it can be read then too
  still : read_refusal (last_run x es) ≡ 0
  still =
      let q = read_passed x fine in
      let l : (ahead es x).skipped ≤ (ahead es x).next = omega (arith, q.1) in
      ap read_refusal (made_run x es m) ∙ readable (ahead es x) q.0 l

  read : (g : Progress) → ProgressSays (last_run x es) g → RunReadOn x es h g
  read g y =
      let v : Run = last_run x es in
      let was : h.cells ≡ cells_so_far x = k.cells ∙ sym (pick_done (read_refusal x) (cells_so_far x) 0 fine) in
      record {
        refusal = y.answer.refusal ∙ still;
        over = y.over ∙ ap (λ (i : ℕ). eqb i 0 && is_over v) still ∙ on.over;
        cells = y.cells ∙ ap (λ (i : ℕ). pick (eqb i 0) (cells_so_far v) 0) still ∙ on.cells ∙ add-mul (x.next - x.skipped) (stepped es) (reads_of x) ∙ ap (λ (i : ℕ). i + stepped es * reads_of x) (sym was);
      }

pub progress_on : ProgressOn
progress_on x es h g k z m y = read x es h k z m g y

pub calls_go_on : CallsGoOn
calls_go_on x es h k z m o l n = made_go x es m (fine x es h k z m) o l n

-- from an opening on that was not refused
module _ (p k s f n : ℕ) (r : RunAnswer) (es : List Event) (o : OpenSays p k s f n r) (z : r.answer.refusal ≡ 0) (m : EventsMade r.run es) where
  abbrev x : Run
  x = opened p k s f n

  accepted : numbers_refusal p k s f ≡ 0
  accepted = answers_none (numbers_refusal p k s f) r.answer o.answer z

  start : r.run ≡ x
  start = o.run ∙ sym (pick_done (numbers_refusal p k s f) x no_run accepted)

  made : EventsMade x es
  made = subst (λ (y : Run). EventsMade y es) start m

  none : read_refusal x ≡ 0
  none = readable x accepted (omega arith)

  opened_right : RunMade p k s f n r.run es
  opened_right =
      let d : RunOn x es = calls_on x es (omega arith) made in
      let last : last_run r.run es ≡ last_run x es = ap (λ (y : Run). last_run y es) start in
      let left : (n : ℕ) → 0 + n ≡ n = λ n. omega arith in
      let rebuilt : 0 - 0 + stepped es ≡ stepped es = omega arith in
      record {
        next = ap (λ (y : Run). y.next) last ∙ d.next ∙ left (stepped es + skipped es);
        skips = ap (λ (y : Run). y.skipped) last ∙ d.skips ∙ left (skipped es);
        steps = ap (λ (y : Run). y.next - y.skipped) last ∙ d.steps ∙ rebuilt;
        few = omega (arith, d.few (omega arith));
        over = ap is_over last ∙ d.over ∙ ap (λ (i : ℕ). eqb i n) (left (stepped es + skipped es));
        cells = ap cells_so_far last ∙ d.cells ∙ ap (λ (i : ℕ). i * read_count p k f (plan_of p k f)) rebuilt;
        order = d.order;
        columns = d.columns;
      }

  opened_read : (g : Progress) → ProgressSays (last_run r.run es) g → RunRead p k f n es g
  opened_read g y =
      let v : Run = last_run r.run es in
      let d = opened_right in
      let l : (ahead es x).skipped ≤ (ahead es x).next = omega arith in
      let e : read_refusal v ≡ 0 = ap read_refusal (ap (λ (y : Run). last_run y es) start ∙ made_run x es made) ∙ readable (ahead es x) accepted l in
      record {
        refusal = y.answer.refusal ∙ e;
        over = y.over ∙ ap (λ (i : ℕ). eqb i 0 && is_over v) e ∙ d.over;
        cells = y.cells ∙ ap (λ (i : ℕ). pick (eqb i 0) (cells_so_far v) 0) e ∙ d.cells;
      }

  opened_go : in_order 0 es ≡ true → all_long p k s es ≡ true → length es ≤ n → accepted_in es ≡ es
  opened_go order lengths few = made_go x es made none order lengths (omega arith)

pub calls_right : CallsRight
calls_right p k s f n r es o z m = opened_right p k s f n r es o z m

pub progress_right : ProgressRight
progress_right p k s f n r es g o z m y = opened_read p k s f n r es o z m g y

pub calls_go : CallsGo
calls_go p k s f n r es o z m order lengths few = opened_go p k s f n r es o z m order lengths few
