-- A parity disk lost with another disk: a data disk by its diagonals and then P by the row sets, or
-- a data disk or P by the row sets and then Q by the diagonal sets.
-- Each step stands, every cell is known at the end, and every set is named. Diagonal sets have no
-- cell on P, and row sets none on Q.
use mathlib.Core.Path.{◌≡◌, refl, sym, ap, ap₂, ◌∙◌}
use mathlib.Core.Bool.{Bool, true, false, ◌&&◌, and-false}
use mathlib.Core.Logic.{inl, inr, ⊎_elim}
use mathlib.Core.List.{List, [], ◌∷◌, ◌++◌}
use Prim.Native.Nat.{ℕ, zero, suc, ◌+◌, ◌-◌, ◌*◌, ◌%◌, ◌≤◌, ◌<◌}
use native.Mathlib.Nat.{mod-lt}
use native.Mathlib.Omega.{arith}
use lib.Dec.{eqb, leb}
use borrow.Author.Tests.{eqb-true, eq-eqb, ne_eqb, le-leb, lt-leb}
use Rattle.mathematics.specs.Lists.{is_in}
use Rattle.mathematics.proofs.Flags.{and_l, and_r, and_i, or_l}
use Rattle.mathematics.proofs.Residues.{sub_small}
use Rattle.liberation.specs.Sets.{place, row_set, diagonal_set, extra_row}
use Rattle.liberation.specs.Plans.{second_row, extra_row_on, diagonal_of, all_of}
use Rattle.liberation.proofs.SetLaws.{in_row, in_diagonal_parity}
use Rattle.liberation.proofs.RouteLaws.{second_row_lem}
use Rattle.liberation.proofs.RowSteps.{ordinary_row, ordinary_diagonal}
use Rattle.liberation.proofs.LostLaws.{extra_on, on_data, on_cases}
use Rattle.liberation.specs.TwoDisks.Pairs.{up_diagonals}
use Rattle.liberation.specs.Stripes.Steps.{CellStep, cell_step, steps_done, on_disk}
use Rattle.liberation.specs.TwoDisks.PairSteps.{is_known, row_parity_steps, diagonal_parity_steps, is_lost}
use Rattle.liberation.proofs.Stripes.Standing.{Standing, done_after, names, names_append}
use Rattle.liberation.proofs.TwoDisks.Upward.{up_steps, Upward, up_names, both_standing, both_full}

-- R i on a data disk or P
rows_up : (p k f : ℕ) → f ≤ k → Upward p k f 0 (λ i. i)
rows_up p k f h =
    record {
      low = omega arith;
      below = λ i l. l;
      held = λ i l. in_row p k i i f l l ∙ and_i (eqb i i) (leb f k) (eq-eqb i i refl) (le-leb f k h);
      lower = λ i r l m t. omega (arith, eqb-true r i (and_l (eqb r i) (leb f k) (sym (in_row p k i r f m l) ∙ t)));
    }

-- D (i - f) on a data disk f: its other cell there, if it has one, is the extra cell, in row i - 1
diagonals_up : (p k f : ℕ) → p % 2 ≡ 1 → k ≤ p → f < k → Upward p k f 1 (diagonal_of p f)
diagonals_up p k f odd most h =
    record {
      low = omega arith;
      below = λ i l. mod-lt (i + p - f) (omega arith);
      held =
          λ i l.
          on_data p k (diagonal_of p f i) i f l (mod-lt (i + p - f) (omega arith)) h
          ∙ or_l (eqb i ((diagonal_of p f i + f) % p)) (extra_on p (diagonal_of p f i) f && eqb i (extra_row p (diagonal_of p f i))) (eq-eqb i ((diagonal_of p f i + f) % p) (sym (ordinary_row p f i (omega arith) l)));
      lower =
          λ i r l m t.
          ⊎_elim
          (λ e. omega (arith, e ∙ ordinary_row p f i (omega arith) l))
          (λ w. extra i r l w)
          (on_cases p k (diagonal_of p f i) r f odd most m (mod-lt (i + p - f) (omega arith)) h t);
    }
  where
    extra : (i r : ℕ) → i < p → (1 ≤ f) × (diagonal_of p f i ≡ p - second_row p f) × (r ≡ extra_row_on p f) → r ≤ i
    extra i r l w =
        ⊎_elim (λ v. ⊎_elim (λ q. omega arith) (λ q. omega arith) (second_row_lem p f odd (omega arith))) (λ v. ⊎_elim (λ q. omega arith) (λ q. omega arith) (second_row_lem p f odd (omega arith))) (sub_small p i f l (omega arith))

-- D i on Q
parity_up : (p k : ℕ) → Upward p k (suc k) 1 (λ i. i)
parity_up p k =
    record {
      low = omega arith;
      below = λ i l. l;
      held = λ i l. in_diagonal_parity p k i i (suc k) l l (omega arith) ∙ and_i (eqb (suc k) (suc k)) (eqb i i) (eq-eqb (suc k) (suc k) refl) (eq-eqb i i refl);
      lower = λ i r l m t. omega (arith, eqb-true r i (and_r (eqb (suc k) (suc k)) (eqb r i) (sym (in_diagonal_parity p k i r (suc k) m l (omega arith)) ∙ t)));
    }

-- the plans as such steps
all_up : (n p f kind j : ℕ) → on_disk p f (all_of n kind j) ≡ up_steps n p f kind (λ i. i) j
unfolding on_disk all_of up_steps
all_up zero p f kind j = refl
all_up (suc n) p f kind j = ap (λ (l : List CellStep). cell_step (place p j f) kind j ∷ l) (all_up n p f kind (suc j))

diagonals_are : (n p f j : ℕ) → on_disk p f (up_diagonals n p f j) ≡ up_steps n p f 1 (diagonal_of p f) j
unfolding on_disk up_diagonals up_steps
diagonals_are zero p f j = refl
diagonals_are (suc n) p f j = ap (λ (l : List CellStep). cell_step (place p j f) 1 (diagonal_of p f j) ∷ l) (diagonals_are n p f (suc j))

pub steps_append : (p k s : ℕ) (cs ds : List CellStep) (t : List ℕ) → steps_done p k s ds (steps_done p k s cs t) ≡ steps_done p k s (cs ++ ds) t
unfolding steps_done
steps_append p k s [] ds t = refl
steps_append p k s (c ∷ cs) ds t = steps_append p k s cs ds _

-- steps that stand one after the other, after which every cell is known, and that name every set
pub record Complete (p k a b : ℕ) (cs : List CellStep) : Type 0 where
  pub standing : Standing p k (is_lost p a b) [] cs
  pub full : (y : ℕ) → y < p * (k + 2) → is_known p a b (done_after [] cs) y ≡ true
  pub rows : (i : ℕ) → i < p → names 0 i cs ≡ true
  pub diagonals : (i : ℕ) → i < p → names 1 i cs ≡ true

module _ (p k f : ℕ) (odd : p % 2 ≡ 1) (most : k ≤ p) (h : f < k) where
  -- diagonal sets do not meet P
  clear_p : (i r : ℕ) → i < p → r < p → is_in (place p r k) (diagonal_set p k (diagonal_of p f i)) ≡ false
  clear_p i r l m = in_diagonal_parity p k (diagonal_of p f i) r k m (mod-lt (i + p - f) (omega arith)) (omega arith) ∙ ap (λ (b : Bool). b && eqb r (diagonal_of p f i)) (ne_eqb k (suc k) (λ e. omega arith))

  row_parity_steps_lem : row_parity_steps p k f ≡ up_steps p p f 1 (diagonal_of p f) 0 ++ up_steps p p k 0 (λ i. i) 0
  row_parity_steps_lem = ap₂ ◌++◌ (diagonals_are p p f 0) (all_up p p k 0 0)

  pub row_parity_complete : Complete p k f k (row_parity_steps p k f)
  row_parity_complete =
      rw row_parity_steps_lem
      (record {
        standing = both_standing p k f k 1 0 (diagonal_of p f) (λ i. i) up (rows_up p k k (omega arith)) apart clear_p;
        full = both_full p k f k 1 0 (diagonal_of p f) (λ i. i) up (rows_up p k k (omega arith)) apart clear_p;
        rows = λ i l. names_append 0 i (up_steps p p f 1 (diagonal_of p f) 0) (up_steps p p k 0 (λ j. j) 0) (inr (up_names p k f k k 0 (λ j. j) (rows_up p k k (omega arith)) p 0 i (omega arith) (omega arith)));
        diagonals = λ i l. names_append 1 i (up_steps p p f 1 (diagonal_of p f) 0) (up_steps p p k 0 (λ j. j) 0) (inl (named i l));
      })
    where
      up : Upward p k f 1 (diagonal_of p f)
      up = diagonals_up p k f odd most h

      apart : f ≡ k → ⊥
      apart e = omega arith

      -- D i is the diagonal of row (i + f) mod p
      named : (i : ℕ) → i < p → names 1 i (up_steps p p f 1 (diagonal_of p f) 0) ≡ true
      named i l =
          ap (λ (z : ℕ). names 1 z (up_steps p p f 1 (diagonal_of p f) 0)) (sym (ordinary_diagonal p f i (omega arith) l))
          ∙ up_names p k f k f 1 (diagonal_of p f) up p 0 ((i + f) % p) (omega arith) (let w : (i + f) % p < p = mod-lt (i + f) (omega arith) in omega arith)

module _ (p k f : ℕ) (h : f ≤ k) where
  -- row sets do not meet Q
  clear_q : (i r : ℕ) → i < p → r < p → is_in (place p r (suc k)) (row_set p k i) ≡ false
  clear_q i r l m = in_row p k i r (suc k) m l ∙ ap (λ (b : Bool). eqb r i && b) (lt-leb (suc k) k (omega arith)) ∙ and-false (eqb r i)

  diagonal_parity_steps_lem : diagonal_parity_steps p k f ≡ up_steps p p f 0 (λ i. i) 0 ++ up_steps p p (suc k) 1 (λ i. i) 0
  diagonal_parity_steps_lem = ap₂ ◌++◌ (all_up p p f 0 0) (all_up p p (suc k) 1 0)

  pub diagonal_parity_complete : Complete p k f (suc k) (diagonal_parity_steps p k f)
  diagonal_parity_complete =
      rw diagonal_parity_steps_lem
      (record {
        standing = both_standing p k f (suc k) 0 1 (λ i. i) (λ i. i) (rows_up p k f h) (parity_up p k) (λ e. omega arith) clear_q;
        full = both_full p k f (suc k) 0 1 (λ i. i) (λ i. i) (rows_up p k f h) (parity_up p k) (λ e. omega arith) clear_q;
        rows = λ i l. names_append 0 i (up_steps p p f 0 (λ j. j) 0) (up_steps p p (suc k) 1 (λ j. j) 0) (inl (up_names p k f (suc k) f 0 (λ j. j) (rows_up p k f h) p 0 i (omega arith) (omega arith)));
        diagonals = λ i l. names_append 1 i (up_steps p p f 0 (λ j. j) 0) (up_steps p p (suc k) 1 (λ j. j) 0) (inr (up_names p k f (suc k) (suc k) 1 (λ j. j) (parity_up p k) p 0 i (omega arith) (omega arith)));
      })
