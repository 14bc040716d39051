-- The tests that several calls share decide their limits: width, data disks, cell size, disk,
-- length, the steps of a plan.
use mathlib.Core.Path.{◌≡◌, refl, sym, ap, ap₂, ◌∙◌, subst}
use mathlib.Core.Bool.{Bool, true, false, ◌||◌, not}
use mathlib.Core.Logic.{◌⊎◌, inl, inr, ⊎_elim}
use mathlib.Core.List.{List, [], ◌∷◌}
use Prim.Native.Nat.{ℕ, suc, ◌+◌, ◌≤◌, ◌<◌}
use native.Mathlib.Omega.{arith}
use lib.Dec.{eqb, ltb, leb}
use borrow.Author.Tests.{eqb-true, eqb-false, eq-eqb, ne_eqb, ltb-false, leb-false, le-ltb, lt-leb, not-false}
use Rattle.mathematics.specs.Choice.{pick, when, first_of}
use Rattle.mathematics.specs.Lists.{is_in}
use Rattle.mathematics.proofs.Flags.{or_false_l, or_false_r, or_cases}
use Rattle.mathematics.proofs.ChoiceLaws.{first_is, first_none, when_none}
use Rattle.liberation.specs.Sets.{is_width, place, set_of, lost_in, width_refusal, disk_refusal, array_refusal, plan_refusal, shape_refusal, numbers_refusal}
use Rattle.liberation.specs.Plans.{Step}
use Rattle.liberation.specs.Judging.{Judged, judged, others_there, step_refusal, judge_from}
use Rattle.liberation.proofs.SetLaws.{in_lost}
use Rattle.liberation.proofs.AcceptedLaws.{passed}
use Rattle.liberation.proofs.Passing.{step_passes}
use Rattle.guarantees.specs.Limits.Limits.{by, ◌then◌, Decides}
use Rattle.guarantees.specs.Limits.Calls.{OneOfTen, array, shape, disk, plan, step, steps}
use Rattle.guarantees.proofs.Limits.LimitLaws.{test, test_at, test_not, test_or, and_then, then_zero}

-- ---- numbers and lengths
pub width_decides : (p : ℕ) → Decides (by 1 (OneOfTen p)) (width_refusal p) 0
width_decides p = test_not (is_width p) 0 (λ e. e) (λ e. e)

pub array_decides : (p k : ℕ) → Decides (array p k) (array_refusal p k) 0
array_decides p k =
    then_zero (width_decides p)
    (λ w. test_or (ltb k 2) (ltb p k) 12 (ltb-false k 2) (le-ltb k 2) (ltb-false p k) (le-ltb p k))

pub shape_decides : (p k s : ℕ) → Decides (shape p k s) (shape_refusal p k s) 0
shape_decides p k s =
    then_zero (array_decides p k)
    (λ w. test_or (eqb s 0) (ltb 4096 s) 1 (λ e. omega (arith, eqb-false s 0 e)) (λ h. ne_eqb s 0 (λ e. omega arith)) (ltb-false 4096 s) (le-ltb 4096 s))

pub disk_decides : (k f : ℕ) → Decides (disk k f) (disk_refusal k f) 0
disk_decides k f = test (ltb (k + 1) f) 2 (ltb-false (k + 1) f) (le-ltb (k + 1) f)

-- n bytes where m are required
pub length_decides : (n m : ℕ) → Decides (by 5 (n ≡ m)) (when (not (eqb n m)) 5) 0
length_decides n m = test_not (eqb n m) 4 (eqb-true n m) (eq-eqb n m)

pub plan_decides : (p k f : ℕ) → Decides (plan p k f) (plan_refusal p k f) 0
plan_decides p k f = then_zero (array_decides p k) (λ w. disk_decides k f)

pub numbers_decide : (p k s f : ℕ) → Decides (shape p k s then disk k f) (numbers_refusal p k s f) 0
numbers_decide p k s f = then_zero (shape_decides p k s) (λ w. disk_decides k f)

-- ---- the steps of a plan
-- the place of the first of four refusals
place_of : (a b c d : Bool) (i : ℕ)
    → pick (eqb (when a 6) 0) (pick (eqb (when b 7) 0) (pick (eqb (when c 8) 0) (when d i) (when c i)) (when b i)) (when a i)
    ≡ when (not (eqb (first_of (when a 6) (first_of (when b 7) (first_of (when c 8) (when d 9)))) 0)) i
place_of true b c d i = refl
place_of false true c d i = refl
place_of false false true d i = refl
place_of false false false true i = refl
place_of false false false false i = refl

module _ (i p k f : ℕ) (done : List ℕ) (s : Step) where
  abbrev set : List ℕ
  set = set_of p k s.kind s.number

  -- what is tested for 6 to 9, in order
  abbrev out : Bool
  out = leb p s.row || (leb p s.number || ltb 1 s.kind)

  abbrev lacks : Bool
  lacks = not (is_in s.row (lost_in p f set))

  abbrev again : Bool
  again = is_in s.row done

  abbrev missing : Bool
  missing = not (others_there s.row (lost_in p f set) done)

  abbrev Low : Type 0
  Low = (s.row < p) × (s.number < p) × (s.kind ≤ 1)

  abbrev Held : Type 0
  Held = is_in (place p s.row f) set ≡ true

  abbrev Fresh : Type 0
  Fresh = again ≡ false

  abbrev Others : Type 0
  Others = (x : ℕ) → x < p → is_in (place p x f) set ≡ true → (x ≡ s.row) ⊎ (is_in x done ≡ true)

  low_none : Low → out ≡ false
  low_none l = ap₂ ◌||◌ (lt-leb p s.row l.0) (ap₂ ◌||◌ (lt-leb p s.number l.1) (le-ltb 1 s.kind l.2))

  low_of : out ≡ false → Low
  low_of e =
      let m = or_false_r (leb p s.row) (leb p s.number || ltb 1 s.kind) e in (
        leb-false p s.row (or_false_l (leb p s.row) (leb p s.number || ltb 1 s.kind) e),
        leb-false p s.number (or_false_l (leb p s.number) (ltb 1 s.kind) m),
        ltb-false 1 s.kind (or_false_r (leb p s.number) (ltb 1 s.kind) m),
      )

  abbrev refusal : ℕ
  refusal = first_of (when out 6) (first_of (when lacks 7) (first_of (when again 8) (when missing 9)))

  held_none : Low → Held → lacks ≡ false
  held_none l h = ap not (in_lost p f s.row set l.0 ∙ h)

  others_of : Low → Held → Fresh → missing ≡ false → Others
  unfolding step_refusal
  others_of l h n e x g q =
      let z : refusal ≡ 0 =
      ap (λ (b : Bool). first_of (when b 6) (first_of (when lacks 7) (first_of (when again 8) (when missing 9)))) (low_none l)
      ∙ ap (λ (b : Bool). first_of (when b 7) (first_of (when again 8) (when missing 9))) (held_none l h)
      ∙ ap (λ (b : Bool). first_of (when b 8) (when missing 9)) n
      ∙ ap (λ (b : Bool). when b 9) e in
      ⊎_elim (λ t. inl (eqb-true x s.row t)) inr (or_cases (eqb x s.row) (is_in x done) ((passed p k f done s z).others x (in_lost p f x set g ∙ q)))

  others_none : Low → Held → Fresh → Others → missing ≡ false
  unfolding step_refusal
  others_none l h n o =
      let a = first_none (when out 6) (first_of (when lacks 7) (first_of (when again 8) (when missing 9))) (step_passes p k f done s.row s.kind s.number l.0 l.1 l.2 h n o) in
      let b = first_none (when lacks 7) (first_of (when again 8) (when missing 9)) a.1 in
      when_none missing 8 (first_none (when again 8) (when missing 9) b.1).1

  step_decides : Decides (step i p k f done s) (step_refusal p k f done s) (when (not (eqb (step_refusal p k f done s) 0)) i)
  unfolding step_refusal
  step_decides =
      subst (λ (at : ℕ). Decides (step i p k f done s) refusal at) (place_of out lacks again missing i)
      (and_then (test_at out 5 i low_of low_none)
      (λ l. and_then (test_at lacks 6 i (λ e. sym (in_lost p f s.row set l.0.0) ∙ not-false (is_in s.row (lost_in p f set)) e) (held_none l.0))
      (λ h. and_then (test_at again 7 i (λ e. e) (λ e. e))
      (λ n. test_at missing 8 i (others_of l.0 h.0 n.0) (others_none l.0 h.0 n.0)))))

-- how the judge goes on after a step
goes_on : (b : Bool) (n i : ℕ) (j : Judged) → eqb n 0 ≡ b → (elim b as (λ x. Judged) [ true ↦ j | false ↦ judged n i ]) ≡ judged (first_of n j.number) (pick (eqb n 0) j.place (when (not (eqb n 0)) i))
goes_on true n i j e = ap₂ judged (sym (ap (λ (x : ℕ). first_of x j.number) (eqb-true n 0 e))) (sym (ap (λ (b : Bool). pick b j.place (when (not b) i)) e))
goes_on false n i j e = ap₂ judged (sym (first_is n j.number e)) (sym (ap (λ (b : Bool). pick b j.place (when (not b) i)) e))

pub steps_decide : (i p k f : ℕ) (done : List ℕ) (ss : List Step) → Decides (steps i p k f done ss) (judge_from i p k f done ss).number (judge_from i p k f done ss).place
unfolding judge_from
steps_decide i p k f done [] = record { cases = (refl, refl) }
steps_decide i p k f done (s ∷ ss) =
    let n = step_refusal p k f done s in
    let j = judge_from (suc i) p k f (s.row ∷ done) ss in
    subst (λ (x : Judged). Decides (steps i p k f done (s ∷ ss)) x.number x.place) (sym (goes_on (eqb n 0) n i j refl))
    (and_then (step_decides i p k f done s) (λ w. steps_decide (suc i) p k f (s.row ∷ done) ss))
