-- The steps of a plan in order. After i steps without a refusal, the rows rebuilt and the cells
-- read so far, with the steps of the bytes still to come, give the answer of the whole plan.
use mathlib.Core.Path.{◌≡◌, refl, sym, ap, ap₂, ◌∙◌}
use mathlib.Core.Bool.{Bool, true, false, not}
use mathlib.Core.Logic.{⊎_elim}
use mathlib.Core.List.{List, [], ◌∷◌, ◌++◌}
use Prim.Native.Nat.{ℕ, suc, ◌+◌, ◌-◌, ◌*◌, ◌≤◌, ◌<◌}
use native.Mathlib.Numerals.{add-one}
use native.Mathlib.Omega.{arith}
use lib.Dec.{eqb}
use lib.ListN.{length, get_or, set, drop, replicate, length-set}
use Rattle.std.specs.Prelude.{Ok, Err}
use Rattle.std.proofs.lemmas.List.{length-append, get_or-replicate}
use lib.Seq.{get_or-drop, drop-drop}
use borrow.Author.Tests.{ne_eqb, eqb-true, eqb-false}
use Rattle.mathematics.specs.Choice.{pick, when, first_of}
use Rattle.mathematics.specs.Lists.{is_in, union}
use Rattle.mathematics.proofs.Flags.{flag}
use Rattle.liberation.specs.Sets.{set_of, lost_in, surviving_in}
use Rattle.liberation.specs.Plans.{Step, step, read_from, cells_read, read_count, marks_from}
use Rattle.liberation.specs.Judging.{Judged, judged, judge, judge_from, others_there, step_refusal, steps_in}
use Rattle.liberation.proofs.SetLaws.{survivors_below}
use Rattle.liberation.proofs.AcceptedLaws.{Passed, passed}
use Rattle.liberation.proofs.Passing.{judge_next}
use Rattle.parity_sets.specs.Marks.{Marked}
use Rattle.parity_sets.proofs.MarkLaws.{marked_read, marked_few}
use Rattle.refusals.specs.Refused.{number_of}
use Rattle.judge.specs.declared.refusal.PlanRefusal.{PlanRefusal}
use Rattle.judge.specs.Steps.{AreRebuilt, is_out_of_range, bytes_step}
use Rattle.judge.specs.Verdicts.{judged_of}
use Rattle.judge.proofs.StepRefusals.{rebuilt_more}
use Rattle.judge.specs.JudgeStepsSays.{StepsSay}

-- a step that is refused gives the answer
judge_stop : (i p k f : ℕ) (ds : List ℕ) (s : Step) (ss : List Step) → (step_refusal p k f ds s ≡ 0 → ⊥) → judge_from i p k f ds (s ∷ ss) ≡ judged (step_refusal p k f ds s) i
unfolding judge_from
judge_stop i p k f ds s ss n = rw (ne_eqb (step_refusal p k f ds s) 0 n, judge_from)

-- the judge's refusals are 6 to 9
step_most : (p k f : ℕ) (ds : List ℕ) (s : Step) → step_refusal p k f ds s ≤ 9
unfolding step_refusal
step_most p k f ds s =
    let xs = lost_in p f (set_of p k s.kind s.number) in
    go (is_out_of_range p s) (not (is_in s.row xs)) (is_in s.row ds) (not (others_there s.row xs ds))
  where
    go : (a b c d : Bool) → first_of (when a 6) (first_of (when b 7) (first_of (when c 8) (when d 9))) ≤ 9
    go true b c d = omega arith
    go false true c d = omega arith
    go false false true d = omega arith
    go false false false true = omega arith
    go false false false false = omega arith

pub judge_most : (i p k f : ℕ) (ds : List ℕ) (ss : List Step) → (judge_from i p k f ds ss).number ≤ 9
unfolding judge_from
judge_most i p k f ds [] = omega arith
judge_most i p k f ds (s ∷ ss) =
    ⊎_elim
    (λ t. omega (arith, ap (λ (x : Judged). x.number) (judge_next i p k f ds s ss (eqb-true (step_refusal p k f ds s) 0 t)), judge_most (suc i) p k f (s.row ∷ ds) ss))
    (λ t. omega (arith, ap (λ (x : Judged). x.number) (judge_stop i p k f ds s ss (eqb-false (step_refusal p k f ds s) 0 t)), step_most p k f ds s))
    (flag (eqb (step_refusal p k f ds s) 0))

-- the steps from step i on
abbrev pub steps_from : ℕ → ℕ → List ℕ → List Step
steps_from p i bs = steps_in (p - i) (drop (3 * i) bs)

-- the three bytes of step i
pub record BytesOf (bs : List ℕ) (i : ℕ) (s : Step) : Type 0 where
  pub row : s.row ≡ get_or bs (3 * i) 0
  pub kind : s.kind ≡ get_or bs (3 * i + 1) 0
  pub number : s.number ≡ get_or bs (3 * i + 2) 0

pub steps_next : (p i : ℕ) (s : Step) (bs : List ℕ) → i < p → BytesOf bs i s → steps_from p i bs ≡ s ∷ steps_from p (i + 1) bs
unfolding steps_in
steps_next p i s bs h b = ap (λ (n : ℕ). steps_in n (drop (3 * i) bs)) more ∙ ap₂ (λ (t : Step) (l : List ℕ). t ∷ steps_in (p - (i + 1)) l) (sym here) rest
  where
    more : p - i ≡ suc (p - (i + 1))
    more = omega arith

    at : (k : ℕ) → get_or (drop (3 * i) bs) k 0 ≡ get_or bs (3 * i + k) 0
    at k = get_or-drop (3 * i) bs k 0

    first : 3 * i ≡ 3 * i + 0
    first = omega arith

    here : s ≡ step (get_or (drop (3 * i) bs) 0 0) (get_or (drop (3 * i) bs) 1 0) (get_or (drop (3 * i) bs) 2 0)
    here = λ j. step ((b.row ∙ ap (λ (n : ℕ). get_or bs n 0) first ∙ sym (at 0)) j) ((b.kind ∙ sym (at 1)) j) ((b.number ∙ sym (at 2)) j)

    after : 3 * i + 3 ≡ 3 * (i + 1)
    after = omega arith

    rest : drop 3 (drop (3 * i) bs) ≡ drop (3 * (i + 1)) bs
    rest = drop-drop 3 (3 * i) bs ∙ ap (λ (n : ℕ). drop n bs) after

-- the next three bytes are a step
next_bytes : (n : ℕ) (x left rest : List ℕ) → rest ≡ x ++ left → length x ≡ 3 → steps_in (suc n) rest ≡ bytes_step x ∷ steps_in n left
unfolding steps_in
next_bytes n (a ∷ (b ∷ (c ∷ []))) left rest e l = ap (steps_in (suc n)) e
next_bytes n [] left rest e l = absurd (omega (arith, l))
next_bytes n (a ∷ []) left rest e l = absurd (omega (arith, l))
next_bytes n (a ∷ (b ∷ [])) left rest e l = absurd (omega (arith, l))
next_bytes n (a ∷ (b ∷ (c ∷ (d ∷ x)))) left rest e l = absurd (omega (arith, l))

-- The loop's state before step i: `d` has a flag a row rebuilt, `m` a byte a cell read, and the bytes
-- `rest` are still to come.
pub record Halfway (p k f : ℕ) (bs : List ℕ) (d : List Bool) (m : List ℕ) (reads i : ℕ) (rest : List ℕ) : Type 0 where
  pub within : i ≤ p
  pub long : length rest ≡ 3 * (p - i)
  pub rows : List ℕ
  pub cells : List ℕ
  pub flags : length d ≡ 31
  pub rebuilt : AreRebuilt d rows
  pub marks : m ≡ marks_from (p * (k + 2)) 0 cells
  pub count : reads ≡ length cells
  pub few : reads ≤ 33 * i
  pub verdict : judge_from i p k f rows (steps_in (p - i) rest) ≡ judge p k f (steps_in p bs)
  pub read : read_from p k f (steps_in (p - i) rest) cells ≡ cells_read p k f (steps_in p bs)

-- what `next_step` says of the bytes x, where n is its refusal
abbrev pub RefusalIs : ℕ → ℕ → ℕ → List Bool → List ℕ → ℕ → Type 0
RefusalIs p k f d x n = (ds : List ℕ) → AreRebuilt d ds → n ≡ step_refusal p k f ds (bytes_step x)

pub halfway_start : (p k f i : ℕ) (bs rest m : List ℕ) → i ≡ 0 → rest ≡ bs → length bs ≡ 3 * p → m ≡ marks_from (p * (k + 2)) 0 [] → Halfway p k f bs (replicate 31 false) m 0 i rest
halfway_start p k f i bs rest m z e l q = rw (z, e) (record {
  within = omega arith;
  long = omega (arith, l);
  rows = [];
  cells = [];
  flags = refl;
  rebuilt = λ r h. get_or-replicate 31 r false false h;
  marks = q;
  count = refl;
  few = omega arith;
  verdict = ap (λ (n : ℕ). judge_from 0 p k f [] (steps_in n bs)) all;
  read = ap (λ (n : ℕ). read_from p k f (steps_in n bs) []) all;
})
  where
    all : p - 0 ≡ p
    all = omega arith

-- three bytes more are left
pub halfway_next : {p k f : ℕ} {bs m : List ℕ} {d : List Bool} {reads i : ℕ} {rest : List ℕ} (x left : List ℕ) → rest ≡ x ++ left → length x ≡ 3 → Halfway p k f bs d m reads i rest → (i < p) × (length left ≡ 3 * (p - (i + 1)))
halfway_next x left e l v = let n = ap length e ∙ length-append x left in (omega (arith, n, l, v.long), omega (arith, n, l, v.long))

-- a step that is not refused
pub halfway_turn : {p k f : ℕ} {bs m : List ℕ} {d : List Bool} {reads i : ℕ} {rest : List ℕ} (x left m' : List ℕ) (s : Step) (j fresh : ℕ) → p ≤ 31 → k ≤ p → s ≡ bytes_step x → j ≡ i + 1 → rest ≡ x ++ left → length x ≡ 3 → RefusalIs p k f d x 0 → Halfway p k f bs d m reads i rest → Marked m m' (surviving_in p f (set_of p k s.kind s.number)) fresh → Halfway p k f bs (set d s.row true) m' (reads + fresh) j left
unfolding read_from
halfway_turn {p} {k} {f} {bs} {m} {d} {reads} {i} {rest} x left m' s j fresh w g b z e l q v r = rw z (record {
  within = omega (arith, more.0);
  long = more.1;
  rows = s.row ∷ v.rows;
  cells = union xs v.cells;
  flags = length-set d s.row true ∙ v.flags;
  rebuilt = rebuilt_more d v.rows s.row v.flags (omega (arith, good.row_below, w)) v.rebuilt;
  marks = read.0;
  count = omega (arith, read.1, v.count);
  few = omega (arith, marked_few p k f s.kind s.number r, v.few);
  verdict = ap (λ (n : ℕ). judge_from n p k f (s.row ∷ v.rows) (steps_in (p - (i + 1)) left)) (add-one i) ∙ sym (judge_next i p k f v.rows s (steps_in (p - (i + 1)) left) none) ∙ sym (ap (judge_from i p k f v.rows) next) ∙ v.verdict;
  read = sym (ap (λ (ss : List Step). read_from p k f ss v.cells) next) ∙ v.read;
})
  where
    more : (i < p) × (length left ≡ 3 * (p - (i + 1)))
    more = halfway_next x left e l v

    none : step_refusal p k f v.rows s ≡ 0
    none = ap (step_refusal p k f v.rows) b ∙ sym (q v.rows v.rebuilt)

    good : Passed p k f v.rows s
    good = passed p k f v.rows s none

    xs : List ℕ
    xs = surviving_in p f (set_of p k s.kind s.number)

    read : (m' ≡ marks_from (p * (k + 2)) 0 (union xs v.cells)) × (fresh + length v.cells ≡ length (union xs v.cells))
    read = marked_read (p * (k + 2)) xs v.cells m m' fresh (survivors_below p k f s.kind s.number good.number_below) v.marks r

    count : p - i ≡ suc (p - (i + 1))
    count = omega (arith, more.0)

    next : steps_in (p - i) rest ≡ s ∷ steps_in (p - (i + 1)) left
    next = ap (λ (n : ℕ). steps_in n rest) count ∙ next_bytes (p - (i + 1)) x left rest e l ∙ ap (λ (c : Step). c ∷ steps_in (p - (i + 1)) left) (sym b)

-- a step that is refused
pub halfway_refused : {p k f : ℕ} {bs m : List ℕ} {d : List Bool} {reads i : ℕ} {rest : List ℕ} (x left : List ℕ) (r : PlanRefusal) → r.place ≡ i → rest ≡ x ++ left → length x ≡ 3 → RefusalIs p k f d x (number_of r.refusal) → (number_of r.refusal ≡ 0 → ⊥) → Halfway p k f bs d m reads i rest → StepsSay p k f bs (judged_of (Err r))
halfway_refused {p} {k} {f} {bs} {d = d} {i = i} {rest = rest} x left r t e l q z v =
    record {
      refusal = sym (ap (λ (j : Judged). j.number) stop);
      place = t ∙ sym (ap (λ (j : Judged). j.place) stop);
      reads = sym (ap (λ (j : Judged). pick (eqb j.number 0) (read_count p k f (steps_in p bs)) 0) stop ∙ ap (λ (b : Bool). pick b (read_count p k f (steps_in p bs)) 0) (ne_eqb (number_of r.refusal) 0 z));
    }
  where
    n : ℕ
    n = number_of r.refusal

    same : n ≡ step_refusal p k f v.rows (bytes_step x)
    same = q v.rows v.rebuilt

    more : (i < p) × (length left ≡ 3 * (p - (i + 1)))
    more = halfway_next x left e l v

    count : p - i ≡ suc (p - (i + 1))
    count = omega (arith, more.0)

    next : steps_in (p - i) rest ≡ bytes_step x ∷ steps_in (p - (i + 1)) left
    next = ap (λ (c : ℕ). steps_in c rest) count ∙ next_bytes (p - (i + 1)) x left rest e l

    stop : judge p k f (steps_in p bs) ≡ judged n i
    stop =
        sym v.verdict
        ∙ ap (judge_from i p k f v.rows) next
        ∙ judge_stop i p k f v.rows (bytes_step x) (steps_in (p - (i + 1)) left) (λ c. z (same ∙ c))
        ∙ ap (λ (c : ℕ). judged c i) (sym same)

-- no step is refused
pub halfway_end : {p k f : ℕ} {bs m : List ℕ} {d : List Bool} {reads i : ℕ} {rest : List ℕ} → length rest < 3 → Halfway p k f bs d m reads i rest → StepsSay p k f bs (judged_of (Ok reads))
unfolding steps_in judge_from read_from
halfway_end {p} {k} {f} {bs} {i = i} {rest = rest} h v =
    record {
      refusal = sym (ap (λ (j : Judged). j.number) over);
      place = sym (ap (λ (j : Judged). j.place) over);
      reads = v.count ∙ ap length read ∙ sym (ap (λ (j : Judged). pick (eqb j.number 0) (read_count p k f (steps_in p bs)) 0) over);
    }
  where
    spent : p - i ≡ 0
    spent = omega (arith, v.long)

    none : steps_in (p - i) rest ≡ []
    none = ap (λ (n : ℕ). steps_in n rest) spent

    over : judge p k f (steps_in p bs) ≡ judged 0 0
    over = sym v.verdict ∙ ap (judge_from i p k f v.rows) none

    read : v.cells ≡ cells_read p k f (steps_in p bs)
    read = sym (ap (λ (ss : List Step). read_from p k f ss v.cells) none) ∙ v.read
