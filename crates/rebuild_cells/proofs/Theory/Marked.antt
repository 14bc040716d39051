-- The places of the marks that are not 0: each once, and all of them; where they are a run of marks,
-- the list is that run.
use mathlib.Core.Path.{◌≡◌, refl, sym, ap, ap₂, subst, ◌∙◌}
use mathlib.Core.Bool.{Bool, true, false, ◌||◌, not}
use mathlib.Core.List.{List, [], ◌∷◌}
use mathlib.Core.Logic.{⊎_elim}
use Prim.Native.Nat.{ℕ, zero, suc, ◌+◌, ◌≤◌, ◌<◌}
use native.Mathlib.Omega.{arith}
use lib.Dec.{eqb}
use lib.ListN.{length, get_or}
use borrow.Author.Tests.{eq-eqb, ne_eqb, lt-ltb}
use Rattle.mathematics.specs.Choice.{pick}
use Rattle.mathematics.specs.Lists.{is_in, distinct, all_below}
use Rattle.mathematics.proofs.Flags.{and_i}
use Rattle.mathematics.proofs.OrderLaws.{lt_or_le}
use Rattle.rebuild_cells.specs.Listed.{RunFrom}
use Rattle.rebuild_cells.specs.Theory.Mending.{marked_from, missing_cells}

marked_before : (i y : ℕ) (ms : List ℕ) → y < i → is_in y (marked_from i ms) ≡ false
unfolding marked_from
marked_before i y [] h = refl
marked_before i y (m ∷ ms) h = go (eqb m 0) (marked_before (suc i) y ms (omega arith))
  where
    go : (b : Bool) → is_in y (marked_from (suc i) ms) ≡ false → is_in y (pick b (marked_from (suc i) ms) (i ∷ marked_from (suc i) ms)) ≡ false
    go true e = e
    go false e = ap₂ ◌||◌ (ne_eqb y i (λ q. omega arith)) e

marked_in : (i z : ℕ) (ms : List ℕ) → is_in (i + z) (marked_from i ms) ≡ not (eqb (get_or ms z 0) 0)
unfolding marked_from
marked_in i z [] = refl
marked_in i zero (m ∷ ms) = let e : i + 0 ≡ i = omega arith in ap (λ (x : ℕ). is_in x (marked_from i (m ∷ ms))) e ∙ go (eqb m 0)
  where
    go : (b : Bool) → is_in i (pick b (marked_from (suc i) ms) (i ∷ marked_from (suc i) ms)) ≡ not b
    go true = marked_before (suc i) i ms (omega arith)
    go false = ap (λ (t : Bool). t || is_in i (marked_from (suc i) ms)) (eq-eqb i i refl)
marked_in i (suc z) (m ∷ ms) = let e : i + suc z ≡ suc i + z = omega arith in ap (λ (x : ℕ). is_in x (marked_from i (m ∷ ms))) e ∙ go (eqb m 0) ∙ marked_in (suc i) z ms
  where
    go : (b : Bool) → is_in (suc i + z) (pick b (marked_from (suc i) ms) (i ∷ marked_from (suc i) ms)) ≡ is_in (suc i + z) (marked_from (suc i) ms)
    go true = refl
    go false = ap (λ (t : Bool). t || is_in (suc i + z) (marked_from (suc i) ms)) (ne_eqb (suc i + z) i (λ q. omega arith))

-- a cell is missing exactly if its mark is not 0
pub missing_in : (ms : List ℕ) (x : ℕ) → is_in x (missing_cells ms) ≡ not (eqb (get_or ms x 0) 0)
missing_in ms x = let e : x ≡ 0 + x = omega arith in ap (λ (y : ℕ). is_in y (missing_cells ms)) e ∙ marked_in 0 x ms

marked_distinct : (i : ℕ) (ms : List ℕ) → distinct (marked_from i ms) ≡ true
unfolding marked_from
marked_distinct i [] = refl
marked_distinct i (m ∷ ms) = go (eqb m 0) (marked_distinct (suc i) ms)
  where
    go : (b : Bool) → distinct (marked_from (suc i) ms) ≡ true → distinct (pick b (marked_from (suc i) ms) (i ∷ marked_from (suc i) ms)) ≡ true
    go true e = e
    go false e = and_i _ _ (ap not (marked_before (suc i) i ms (omega arith))) e

pub missing_distinct : (ms : List ℕ) → distinct (missing_cells ms) ≡ true
missing_distinct ms = marked_distinct 0 ms

marked_below : (i n : ℕ) (ms : List ℕ) → i + length ms ≡ n → all_below n (marked_from i ms) ≡ true
unfolding marked_from
marked_below i n [] e = refl
marked_below i n (m ∷ ms) e = go (eqb m 0) (marked_below (suc i) n ms (omega arith))
  where
    go : (b : Bool) → all_below n (marked_from (suc i) ms) ≡ true → all_below n (pick b (marked_from (suc i) ms) (i ∷ marked_from (suc i) ms)) ≡ true
    go true h = h
    go false h = and_i _ _ (lt-ltb i n (omega arith)) h

pub missing_below : (n : ℕ) (ms : List ℕ) → length ms ≡ n → all_below n (missing_cells ms) ≡ true
missing_below n ms e = marked_below 0 n ms (omega arith)

-- no mark at all
marked_none : (i : ℕ) (ms : List ℕ) → ((z : ℕ) → z < length ms → get_or ms z 0 ≡ 0) → marked_from i ms ≡ []
unfolding marked_from
marked_none i [] h = refl
marked_none i (m ∷ ms) h = ap (λ (b : Bool). pick b (marked_from (suc i) ms) (i ∷ marked_from (suc i) ms)) (eq-eqb m 0 (h zero (omega arith))) ∙ marked_none (suc i) ms (λ z l. h (suc z) (omega arith))

-- the n numbers from a on, and no other
Run : ℕ → ℕ → List ℕ → Type 0
Run n a xs = (length xs ≡ n) × ((j : ℕ) → j < n → get_or xs j 0 ≡ a + j)

run_more : (n i a : ℕ) (xs : List ℕ) → i ≡ a → Run n (suc a) xs → Run (suc n) a (i ∷ xs)
unfolding Run
run_more n i a xs e g = (ap suc g.0, at)
  where
    at : (j : ℕ) → j < suc n → get_or (i ∷ xs) j 0 ≡ a + j
    at zero l = omega arith
    at (suc j) l = g.1 j (omega arith) ∙ omega arith

marked_from_lem :
    (n i a : ℕ) (ms : List ℕ) → i ≤ a → a + n ≤ i + length ms
    → ((z : ℕ) → z < length ms → a ≤ i + z → i + z < a + n → get_or ms z 0 ≡ 0 → ⊥)
    → ((z : ℕ) → z < length ms → (a ≤ i + z → i + z < a + n → ⊥) → get_or ms z 0 ≡ 0)
    → Run n a (marked_from i ms)
unfolding marked_from Run
marked_from_lem zero i a ms l r on off = (ap length (marked_none i ms (λ z h. off z h (λ q w. omega arith))), λ j h. absurd (omega arith))
marked_from_lem (suc n) i a [] l r on off = absurd (omega arith)
marked_from_lem (suc n) i a (m ∷ ms) l r on off =
    ⊎_elim
    (λ h. subst (λ (b : Bool). Run (suc n) a (pick b (marked_from (suc i) ms) (i ∷ marked_from (suc i) ms))) (sym (eq-eqb m 0 (off zero (omega arith) (λ q w. omega arith))))
    (marked_from_lem (suc n) (suc i) a ms (omega arith) (omega arith) (λ z k q w. on (suc z) (omega arith) (omega arith) (omega arith)) (λ z k q. off (suc z) (omega arith) (λ u v. q (omega arith) (omega arith)))))
    (λ h. subst (λ (b : Bool). Run (suc n) a (pick b (marked_from (suc i) ms) (i ∷ marked_from (suc i) ms))) (sym (ne_eqb m 0 (on zero (omega arith) (omega arith) (omega arith))))
    (run_more n i a (marked_from (suc i) ms) (omega arith) (marked_from_lem n (suc i) (suc a) ms (omega arith) (omega arith) (λ z k q w. on (suc z) (omega arith) (omega arith) (omega arith)) (λ z k q. off (suc z) (omega arith) (λ u v. q (omega arith) (omega arith))))))
    (lt_or_le i a)

-- the marks of n places from a on are not 0, all others are
pub missing_run :
    (n a : ℕ) (ms : List ℕ) → a + n ≤ length ms
    → ((x : ℕ) → x < length ms → a ≤ x → x < a + n → get_or ms x 0 ≡ 0 → ⊥)
    → ((x : ℕ) → x < length ms → (a ≤ x → x < a + n → ⊥) → get_or ms x 0 ≡ 0)
    → (length (missing_cells ms) ≡ n) × RunFrom 0 n a (missing_cells ms)
unfolding Run
missing_run n a ms r on off =
    let g = marked_from_lem n 0 a ms (omega arith) (omega arith) (λ z h q w. on z h (omega arith) (omega arith)) (λ z h q. off z h (λ u v. q (omega arith) (omega arith))) in
    (g.0, λ j h. let z : 0 + j ≡ j = omega arith in ap (λ (x : ℕ). get_or (missing_cells ms) x 0) z ∙ g.1 j h)
