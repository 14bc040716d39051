-- The steps of our plan, done within a stripe: each solves an ordinary cell of its set, and the
-- steps still to come, on the stripe as it stands, give what all steps give.
use mathlib.Core.Path.{◌≡◌, refl, sym, ap, subst, ◌∙◌}
use mathlib.Core.Bool.{Bool, true, false}
use mathlib.Core.Logic.{◌⊎◌, inl, inr}
use mathlib.Core.List.{List, [], ◌∷◌, ◌++◌}
use Prim.Native.Nat.{ℕ, zero, suc, ◌+◌, ◌-◌, ◌≤◌, ◌<◌}
use native.Mathlib.Nat.{mod-lt}
use native.Mathlib.Numerals.{add-one}
use native.Mathlib.Omega.{arith}
use lib.Dec.{eqb}
use lib.ListN.{length, get_or, drop, drop_of_length-le}
use Rattle.mathematics.specs.Choice.{pick}
use Rattle.liberation.specs.Sets.{is_width, place, set_of}
use Rattle.liberation.specs.Plans.{Step, step, diagonal_of, routes, row_steps, diagonal_steps, all_of, plan_of}
use Rattle.liberation.proofs.Widths.{width_odd, width_least}
use Rattle.liberation.proofs.RouteLaws.{routes_size}
use Rattle.liberation.proofs.RowSteps.{ordinary_row}
use Rattle.liberation.proofs.OurPlan.{plan_data}
use Rattle.liberation.proofs.ParityPlans.{plan_parity}
use Rattle.liberation.proofs.PartLaws.{disk_cases}
use Rattle.liberation.proofs.RecordLaws.{StepAt, step_at_lem, plan_length}
use Rattle.liberation.specs.Stripes.Stripes.{solved, followed}
use Rattle.planner.specs.declared.records.Steps.{Steps}
use Rattle.planner.specs.StepRecords.{Holds}
use Rattle.stripe_cells.specs.Cells.{Ordinary}
use Rattle.stripe_cells.proofs.OrdinaryLaws.{row_own, diagonal_own, parity_own}

module _ (p k f : ℕ) where
  -- the step solves an ordinary cell of disk f
  abbrev Solves : Step → Type 0
  Solves st = Ordinary p k st.kind st.number f st.row

  -- each of the steps does
  abbrev Each : List Step → Type 0
  Each ss = (i : ℕ) (st : Step) → i < length ss → drop i ss ≡ st ∷ drop (suc i) ss → Solves st

  each_none : Each []
  each_none i st h e = absurd (omega arith)

  each_next : (x : Step) (ss : List Step) → Solves x → Each ss → Each (x ∷ ss)
  each_next x ss o rest zero st h e = subst Solves (ap first e) o
    where
      first : List Step → Step
      first [] = st
      first (y ∷ ys) = y
  each_next x ss o rest (suc i) st h e = rest i st (omega arith) e

  each_append : (ss ts : List Step) → Each ss → Each ts → Each (ss ++ ts)
  each_append [] ts a b = b
  each_append (x ∷ ss) ts a b = each_next x (ss ++ ts) (a 0 x (omega arith) refl) (each_append ss ts (λ i st h e. a (suc i) st (omega arith) e) b)

  -- sets of one kind
  each_of : (n t j : ℕ) → n + j ≡ p → ((i : ℕ) → i < p → Solves (step i t i)) → Each (all_of n t j)
  unfolding all_of
  each_of zero t j e o = each_none
  each_of (suc n) t j e o = each_next (step j t j) (all_of n t (suc j)) (o j (omega arith)) (each_of n t (suc j) (omega arith) o)

  -- the steps made from routes, for a data disk
  module _ (most : k ≤ p) (low : f < k) where
    each_row : (rs : List ℕ) (j : ℕ) → j + length rs ≤ p → Each (row_steps j rs)
    unfolding row_steps
    each_row [] j h = each_none
    each_row (r ∷ rs) j h = go (eqb r 2) (each_row rs (suc j) (omega arith))
      where
        go : (b : Bool) → Each (row_steps (suc j) rs) → Each (pick b (row_steps (suc j) rs) (step j 0 j ∷ row_steps (suc j) rs))
        go true rest = rest
        go false rest = each_next (step j 0 j) (row_steps (suc j) rs) (row_own p k j f (omega arith) (omega arith)) rest

    each_diagonal : (rs : List ℕ) (j : ℕ) → j + length rs ≤ p → Each (diagonal_steps p f j rs)
    unfolding diagonal_steps
    each_diagonal [] j h = each_none
    each_diagonal (r ∷ rs) j h = go (eqb r 2) (each_diagonal rs (suc j) (omega arith))
      where
        own : Solves (step j 1 (diagonal_of p f j))
        own = diagonal_own p k (diagonal_of p f j) f j (mod-lt (j + p - f) (omega arith)) (omega arith) low (sym (ordinary_row p f j (omega arith) (omega arith)))

        go : (b : Bool) → Each (diagonal_steps p f (suc j) rs) → Each (pick b (step j 1 (diagonal_of p f j) ∷ diagonal_steps p f (suc j) rs) (diagonal_steps p f (suc j) rs))
        go true rest = each_next (step j 1 (diagonal_of p f j)) (diagonal_steps p f (suc j) rs) own rest
        go false rest = rest

  -- the steps from i on, done to a stripe
  abbrev pub steps_rest : ℕ → ℕ → List ℕ → List ℕ
  steps_rest s i l = followed p k s f (drop i (plan_of p k f)) l

  -- the next step done
  pub steps_turn : (s i : ℕ) (a : StepAt (plan_of p k f) i) (l new : List ℕ) → new ≡ solved s (place p a.this.row f) (set_of p k a.this.kind a.this.number) l → steps_rest s (i + 1) new ≡ steps_rest s i l
  unfolding followed
  steps_turn s i a l new e =
      ap (λ (j : ℕ). followed p k s f (drop j (plan_of p k f)) new) (add-one i)
      ∙ ap (followed p k s f (drop (suc i) (plan_of p k f))) e
      ∙ sym (ap (λ (ss : List Step). followed p k s f ss l) a.split)

  module _ (wide : is_width p ≡ true) (most : k ≤ p) (disk : f ≤ k + 1) where
    each_data : f < k → Each (plan_of p k f)
    each_data h =
        let rs : List ℕ = routes p f in
        let n : length rs ≡ p = routes_size p f (width_odd p wide) (width_least p wide) (omega arith) in
        subst Each (sym (plan_data p k f h)) (each_append (row_steps 0 rs) (diagonal_steps p f 0 rs) (each_row most h rs 0 (omega (arith, n))) (each_diagonal most h rs 0 (omega (arith, n))))

    each_parity : (t : ℕ) → k ≤ f → f - k ≡ t → ((i : ℕ) → i < p → Solves (step i t i)) → Each (plan_of p k f)
    each_parity t h e o = subst Each (sym (plan_parity p k f h ∙ ap (λ (n : ℕ). all_of p n 0) e)) (each_of p t 0 (omega arith) o)

    each_plan : Each (plan_of p k f)
    each_plan = go (disk_cases k f disk)
      where
        go : (f < k) ⊎ ((f ≡ k) ⊎ (f ≡ suc k)) → Each (plan_of p k f)
        go (inl l) = each_data l
        go (inr (inl e)) = each_parity 0 (omega arith) (omega arith) (λ i b. row_own p k i f b (omega arith))
        go (inr (inr e)) = let q : k + 1 ≡ f = omega arith in each_parity 1 (omega arith) (omega arith) (λ i b. subst (λ (c : ℕ). Ordinary p k 1 i c i) q (parity_own p k i b))

    -- so does each step of our plan
    pub plan_ordinary : (i : ℕ) (a : StepAt (plan_of p k f) i) → i < p → Ordinary p k a.this.kind a.this.number f a.this.row
    plan_ordinary i a l = each_plan i a.this (omega (arith, plan_length p k f wide most disk)) a.split

    -- all steps done
    pub steps_last : (s i : ℕ) (l : List ℕ) → p ≤ i → steps_rest s i l ≡ l
    unfolding followed
    steps_last s i l h = ap (λ (ss : List Step). followed p k s f ss l) (drop_of_length-le (plan_of p k f) {i = i} (omega (arith, plan_length p k f wide most disk)))

-- step i of our plan, and where the arrays have it
pub plan_step : (p k f i : ℕ) (s : Steps) → is_width p ≡ true → k ≤ p → f ≤ k + 1 → Holds (plan_of p k f) s → i < p
    → (a : StepAt (plan_of p k f) i) × (get_or s.rows i 0 ≡ a.this.row) × (get_or s.kinds i 0 ≡ a.this.kind) × (get_or s.numbers i 0 ≡ a.this.number)
plan_step p k f i s wide most disk h l =
    let a : StepAt (plan_of p k f) i = step_at_lem (plan_of p k f) i (omega (arith, plan_length p k f wide most disk)) in (
      a,
      ap (λ (xs : List ℕ). get_or xs i 0) h.rows ∙ a.held (λ q. q.row),
      ap (λ (xs : List ℕ). get_or xs i 0) h.kinds ∙ a.held (λ q. q.kind),
      ap (λ (xs : List ℕ). get_or xs i 0) h.numbers ∙ a.held (λ q. q.number),
    )
