-- The loop that prints the steps of our plan: after i of them their lines are written and their
-- cells marked, and with the lines still to come that is the whole text.
use mathlib.Core.Path.{◌≡◌, refl, sym, ap, subst, ◌∙◌}
use mathlib.Core.Bool.{true}
use mathlib.Core.List.{List, [], ◌++◌, append_assoc, append-nil}
use Prim.Native.Nat.{ℕ, suc, ◌+◌, ◌-◌, ◌*◌, ◌≤◌, ◌<◌}
use native.Mathlib.Numerals.{add-one}
use native.Mathlib.Omega.{arith}
use lib.ListN.{length, get_or, drop, length-append, drop_of_length-le}
use Rattle.mathematics.specs.Lists.{union}
use Rattle.liberation.specs.Sets.{is_width, set_of, surviving_in}
use Rattle.liberation.specs.Plans.{Step, plan_of, marks_from}
use Rattle.liberation.proofs.SetLaws.{survivors_below}
use Rattle.parity_sets.specs.Marks.{Marked}
use Rattle.parity_sets.specs.declared.set.ParitySet.{ParitySet}
use Rattle.parity_sets.specs.ParitySets.{cells_of, parity_set}
use Rattle.planner.proofs.MarkingLoop.{cells_named}
use Rattle.parity_sets.proofs.MarkLaws.{marked_read}
use Rattle.planner.specs.declared.records.Steps.{Steps}
use Rattle.planner.specs.StepRecords.{Holds}
use Rattle.liberation.proofs.RecordLaws.{StepAt, step_at_lem, plan_length, plan_passed, plan_number}
use Rattle.printed_plan.specs.Text.{head_line, line_of, new_from, lines_from, plan_text}
use Rattle.printed_plan.proofs.TextLaws.{line_most}

-- Step i of our plan, and where the plan record has its numbers.
pub record PlanStep (p f i : ℕ) (r : Steps) : Type 0 where
  pub here : StepAt (plan_of p p f) i
  pub row : get_or r.rows i 0 ≡ here.this.row
  pub kind : get_or r.kinds i 0 ≡ here.this.kind
  pub number : get_or r.numbers i 0 ≡ here.this.number
  pub row_below : here.this.row < p
  pub number_below : here.this.number < p

pub plan_step : (p f i : ℕ) (r : Steps) → is_width p ≡ true → f ≤ p + 1 → Holds (plan_of p p f) r → i < p → PlanStep p f i r
plan_step p f i r w h k l =
    record {
      here = a;
      row = ap (λ (x : List ℕ). get_or x i 0) k.rows ∙ a.held (λ s. s.row);
      kind = ap (λ (x : List ℕ). get_or x i 0) k.kinds ∙ a.held (λ s. s.kind);
      number = ap (λ (x : List ℕ). get_or x i 0) k.numbers ∙ a.held (λ s. s.number);
      row_below = (plan_passed p p f i w (omega arith) h a l).1.row_below;
      number_below = plan_number p p f i w (omega arith) h a l;
    }
  where
    a : StepAt (plan_of p p f) i
    a = step_at_lem (plan_of p p f) i (omega (arith, plan_length p p f w (omega arith) h))

-- the cells of the set that the record has at a place are those of the step
pub marked_step : (p k f kind number a b : ℕ) {s : ParitySet} {m m' : List ℕ} {r : ℕ} → s ≡ parity_set kind number → k ≡ p → kind ≡ a → number ≡ b → Marked m m' (surviving_in p f (cells_of p k s)) r → Marked m m' (surviving_in p f (set_of p p a b)) r
marked_step p k f kind number a b {s} {m} {m'} {r} e q x y d = subst (λ (xs : List ℕ). Marked m m' (surviving_in p f xs) r) (ap (cells_of p k) e ∙ cells_named p k kind number ∙ same) d
  where
    same : set_of p k kind number ≡ set_of p p a b
    same = rw (q, x, y) refl

-- After i steps the text is t and the marks are m.
pub record Printing (p f : ℕ) (ss : List Step) (t m : List ℕ) (i : ℕ) : Type 0 where
  pub cells : List ℕ
  pub few : length t ≤ 24 + 14 * i
  pub marks : m ≡ marks_from (p * (p + 2)) 0 cells
  pub rest : t ++ lines_from i (drop i ss) (new_from p f cells (drop i ss)) ≡ head_line ++ lines_from 0 ss (new_from p f [] ss)

pub printing_start : (p f : ℕ) (ss : List Step) (m : List ℕ) → m ≡ marks_from (p * (p + 2)) 0 [] → Printing p f ss head_line m 0
printing_start p f ss m e = record { cells = []; few = omega arith; marks = e; rest = refl }

-- one step more
module _ (p f : ℕ) (ss : List Step) (i : ℕ) (a : StepAt ss i) where
  abbrev this : List ℕ
  this = surviving_in p f (set_of p p a.this.kind a.this.number)

  -- the next line, and those after it
  next_line : (ys : List ℕ) (new : ℕ) → new + length ys ≡ length (union this ys) → lines_from i (drop i ss) (new_from p f ys (drop i ss)) ≡ line_of i a.this new ++ lines_from (i + 1) (drop (i + 1) ss) (new_from p f (union this ys) (drop (i + 1) ss))
  unfolding lines_from new_from
  next_line ys new e =
      let q : length (union this ys) - length ys ≡ new = omega arith in
      ap (λ (x : List Step). lines_from i x (new_from p f ys x)) a.split
      ∙ ap (λ (n : ℕ). line_of i a.this n ++ lines_from (suc i) (drop (suc i) ss) (new_from p f (union this ys) (drop (suc i) ss))) q
      ∙ ap (λ (j : ℕ). line_of i a.this new ++ lines_from j (drop j ss) (new_from p f (union this ys) (drop j ss))) (sym (add-one i))

  pub printing_turn : {t m m' : List ℕ} {new : ℕ} → a.this.number < p → Printing p f ss t m i → Marked m m' (surviving_in p f (set_of p p a.this.kind a.this.number)) new → Printing p f ss (t ++ line_of i a.this new) m' (i + 1)
  printing_turn {t} {m} {m'} {new} n k d =
      record {
        cells = union this k.cells;
        few = omega (arith, k.few, length-append t (line_of i a.this new), line_most i a.this new);
        marks = read.0;
        rest = append_assoc t (line_of i a.this new) _ ∙ ap (λ (x : List ℕ). t ++ x) (sym (next_line k.cells new read.1)) ∙ k.rest;
      }
    where
      read : (m' ≡ marks_from (p * (p + 2)) 0 (union this k.cells)) × (new + length k.cells ≡ length (union this k.cells))
      read = marked_read (p * (p + 2)) this k.cells m m' new (survivors_below p p f a.this.kind a.this.number n) k.marks d

pub printing_end : {p f i : ℕ} {t m : List ℕ} → length (plan_of p p f) ≤ i → Printing p f (plan_of p p f) t m i → t ≡ plan_text p f
unfolding lines_from plan_text
printing_end {p} {f} {i} {t} h k =
    sym (append-nil t) ∙ ap (λ (x : List Step). t ++ lines_from i x (new_from p f k.cells x)) (sym (drop_of_length-le (plan_of p p f) h)) ∙ k.rest
