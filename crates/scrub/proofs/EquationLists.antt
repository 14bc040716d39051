-- The survivors of an equation as one list of offsets: the sets of an equation
-- one after another.
use mathlib.Core.Path.{◌≡◌, sym, ap, ap₂, ◌∙◌}
use mathlib.Core.Bool.{Bool, true, false, ◌&&◌, and-false}
use mathlib.Core.List.{List, [], ◌∷◌, ◌++◌, append-nil}
use Prim.Native.Nat.{ℕ, suc, ◌+◌, ◌-◌, ◌%◌, ◌≤◌, ◌<◌}
use native.Mathlib.Omega.{arith}
use lib.Dec.{eqb, leb}
use borrow.Author.Tests.{eq-eqb, ne_eqb, le-leb}
use Rattle.mathematics.specs.Choice.{pick}
use Rattle.mathematics.proofs.Flags.{and_i}
use Rattle.mathematics.proofs.KeptLaws.{kept_append}
use Rattle.liberation.specs.Sets.{row_set, diagonal_set, set_of, extra_row, extra_disk, lost_in, surviving_in}
use Rattle.liberation.proofs.SetLaws.{surviving_keeps}
use Rattle.liberation.proofs.LostLaws.{extra_on, lost_diagonal}
use Rattle.liberation.specs.Scrub.Survivors.{row_sets, equation}
use Rattle.liberation.proofs.Scrub.EquationCells.{equation_last, equation_other, equation_row_parity}
use Rattle.stripe_cells.specs.Offsets.{scaled}
use Rattle.stripe_cells.specs.OrdinaryCells.{survivors}
use Rattle.stripe_cells.proofs.AppendedLaws.{both_appended}
use Rattle.stripe_cells.proofs.SetLists.{survivors_one}

-- another name of the cells that were appended
named : (s : ℕ) (xs zs a b : List ℕ) → zs ≡ xs → b ≡ a ++ scaled s xs → b ≡ a ++ scaled s zs
named s xs zs a b e u = u ∙ ap (λ (ys : List ℕ). a ++ scaled s ys) (sym e)

-- the cells of a set but those on disk d, named once
pub one_lost : (p k s d l h kind i : ℕ) (a b : List ℕ) → (l ≡ d) × (h ≡ d) → b ≡ a ++ scaled s (survivors p l h (set_of p k kind i)) → b ≡ a ++ scaled s (surviving_in p d (set_of p k kind i))
one_lost p k s d l h kind i a b e u = u ∙ ap₂ (λ (x y : ℕ). a ++ scaled s (survivors p x y (set_of p k kind i))) e.0 e.1 ∙ ap (λ (xs : List ℕ). a ++ scaled s xs) (survivors_one p d (set_of p k kind i))

-- the row sets of the rows that D i has on the data disk d: one, and a second where its extra cell
-- is there
module _ (p k s d i row : ℕ) (l : i < p) (h : d < k) (e : row ≡ (i + d) % p) where
  abbrev rows : List ℕ
  rows = surviving_in p d (row_sets p k (lost_in p d (diagonal_set p k i)))

  rows_with : (b : Bool) → extra_on p i d ≡ b → rows ≡ surviving_in p d (row_sets p k (row ∷ pick b (extra_row p i ∷ []) []))
  rows_with b q = ap (λ (rs : List ℕ). surviving_in p d (row_sets p k rs)) (lost_diagonal p k i d l h ∙ ap (λ (c : Bool). ((i + d) % p) ∷ pick c (extra_row p i ∷ []) []) q ∙ ap (λ (r : ℕ). r ∷ pick b (extra_row p i ∷ []) []) (sym e))

  rows_one : extra_on p i d ≡ false → rows ≡ surviving_in p d (set_of p k 0 row)
  unfolding row_sets
  rows_one q = rows_with false q ∙ ap (surviving_in p d) (append-nil (row_set p k row))

  rows_two : extra_on p i d ≡ true → rows ≡ surviving_in p d (set_of p k 0 row) ++ surviving_in p d (set_of p k 0 (p - 1 - i))
  unfolding row_sets
  rows_two q =
      rows_with true q
      ∙ kept_append (surviving_keeps p d) (row_set p k row) (row_set p k (extra_row p i) ++ [])
      ∙ ap (λ (ys : List ℕ). surviving_in p d (row_set p k row) ++ surviving_in p d ys) (append-nil (row_set p k (extra_row p i)))

  -- D 0 has no extra cell, and that of another diagonal may be on another disk
  pub rows_zero : (a b : List ℕ) → i ≡ 0 → b ≡ a ++ scaled s (surviving_in p d (set_of p k 0 row)) → b ≡ a ++ scaled s rows
  rows_zero a b q u = named s (surviving_in p d (set_of p k 0 row)) rows a b (rows_one (ap (λ (z : ℕ). extra_on p z d) q)) u

  pub rows_apart : (a b : List ℕ) (x : ℕ) → x ≡ extra_disk p i → (x ≡ d → ⊥) → b ≡ a ++ scaled s (surviving_in p d (set_of p k 0 row)) → b ≡ a ++ scaled s rows
  rows_apart a b x g q u = named s (surviving_in p d (set_of p k 0 row)) rows a b (rows_one (ap (λ (b : Bool). leb 1 i && b) (ne_eqb (extra_disk p i) d (λ w. q (g ∙ w))) ∙ and-false (leb 1 i))) u

  pub rows_both : (a b c : List ℕ) (x : ℕ) → x ≡ extra_disk p i → x ≡ d → (i ≡ 0 → ⊥) → b ≡ a ++ scaled s (surviving_in p d (set_of p k 0 row)) → c ≡ b ++ scaled s (surviving_in p d (set_of p k 0 (p - 1 - i))) → c ≡ a ++ scaled s rows
  rows_both a b c x g q z u v =
      both_appended rows a b c s (surviving_in p d (set_of p k 0 row)) (surviving_in p d (set_of p k 0 (p - 1 - i)))
      (rows_two (and_i (leb 1 i) (eqb (extra_disk p i) d) (le-leb 1 i (omega arith)) (eq-eqb (extra_disk p i) d (sym g ∙ q))))
      u
      v

-- the equations of Q, of P, and of a data disk
module _ (p k s d i : ℕ) (l : i < p) where
  pub last_listed : (b : List ℕ) → d ≡ k + 1 → b ≡ scaled s (surviving_in p d (set_of p k 0 i)) → b ≡ scaled s (surviving_in p d (equation p k d i))
  last_listed b e u = let q : d ≡ suc k = omega arith in u ∙ ap (scaled s) (sym (ap (surviving_in p d) (ap (λ (c : ℕ). equation p k c i) q ∙ equation_last p k i)))

  pub row_parity_listed : (b : List ℕ) → d ≡ k → b ≡ scaled s (surviving_in p d (set_of p k 1 i)) → b ≡ scaled s (surviving_in p d (equation p k d i))
  row_parity_listed b e u = u ∙ ap (scaled s) (sym (ap (surviving_in p d) (ap (λ (c : ℕ). equation p k c i) e ∙ equation_row_parity p k i l)))

  pub data_listed : (b c : List ℕ) → d ≤ k → b ≡ scaled s (surviving_in p d (set_of p k 1 i)) → c ≡ b ++ scaled s (surviving_in p d (row_sets p k (lost_in p d (diagonal_set p k i)))) → c ≡ scaled s (surviving_in p d (equation p k d i))
  data_listed b c h u v =
      both_appended (surviving_in p d (equation p k d i)) [] b c s (surviving_in p d (diagonal_set p k i)) (surviving_in p d (row_sets p k (lost_in p d (diagonal_set p k i))))
      (ap (surviving_in p d) (equation_other p k d i h) ∙ kept_append (surviving_keeps p d) (diagonal_set p k i) (row_sets p k (lost_in p d (diagonal_set p k i))))
      u
      v
