-- The cells of an equation of the survivors: they are cells of the stripe, and on the disk itself
-- each row occurs twice or not at all.
use mathlib.Core.Path.{◌≡◌, refl, ap, ap₂, ◌∙◌}
use mathlib.Core.Bool.{Bool, true}
use mathlib.Core.Logic.{◌⊎◌, inl, inr, ⊎_elim}
use mathlib.Core.List.{List, [], ◌∷◌, ◌++◌, append-nil}
use Prim.Native.Nat.{ℕ, suc, ◌+◌, ◌*◌, ◌≤◌, ◌<◌}
use native.Mathlib.Omega.{arith}
use lib.Dec.{ltb}
use borrow.Author.Tests.{eq-eqb, ne_eqb, ltb-true}
use Rattle.mathematics.specs.Choice.{pick}
use Rattle.mathematics.specs.Lists.{all_below}
use Rattle.mathematics.proofs.Flags.{and_l, and_r}
use Rattle.mathematics.proofs.ListLaws.{below_append}
use Rattle.mathematics.proofs.OrderLaws.{lt_or_le}
use Rattle.liberation.specs.Sets.{row_set, diagonal_set, lost_in}
use Rattle.liberation.proofs.SetLaws.{lost_below, set_below}
use Rattle.liberation.proofs.LostLaws.{lost_append, lost_row, lost_row_Q, lost_diagonal_P}
use Rattle.liberation.specs.Scrub.Survivors.{row_sets, equation}

-- the row sets of several rows
module _ (p k : ℕ) where
  pub row_sets_below : (rs : List ℕ) → all_below p rs ≡ true → all_below (p * (k + 2)) (row_sets p k rs) ≡ true
  unfolding row_sets
  row_sets_below [] h = refl
  row_sets_below (r ∷ rs) h =
      below_append (p * (k + 2)) (row_set p k r) (row_sets p k rs) (set_below p k 0 r (ltb-true r p (and_l (ltb r p) (all_below p rs) h))) (row_sets_below rs (and_r (ltb r p) (all_below p rs) h))

  -- have just those rows on a data disk or P
  row_sets_lost : (d : ℕ) → d ≤ k → (rs : List ℕ) → all_below p rs ≡ true → lost_in p d (row_sets p k rs) ≡ rs
  unfolding row_sets lost_in
  row_sets_lost d l [] h = refl
  row_sets_lost d l (r ∷ rs) h =
      lost_append p d (row_set p k r) (row_sets p k rs)
      ∙ ap₂ ◌++◌ (lost_row p k r d (ltb-true r p (and_l (ltb r p) (all_below p rs) h)) l) (row_sets_lost d l rs (and_r (ltb r p) (all_below p rs) h))

-- the equations of Q, and of any other disk
pub equation_last : (p k i : ℕ) → equation p k (suc k) i ≡ row_set p k i
unfolding equation
equation_last p k i = ap (λ (b : Bool). pick b (row_set p k i) (diagonal_set p k i ++ row_sets p k (lost_in p (suc k) (diagonal_set p k i)))) (eq-eqb (suc k) (suc k) refl)

pub equation_other : (p k d i : ℕ) → d ≤ k → equation p k d i ≡ diagonal_set p k i ++ row_sets p k (lost_in p d (diagonal_set p k i))
unfolding equation
equation_other p k d i h = ap (λ (b : Bool). pick b (row_set p k i) (diagonal_set p k i ++ row_sets p k (lost_in p d (diagonal_set p k i)))) (ne_eqb d (suc k) (λ e. omega arith))

-- on P it is the diagonal alone
pub equation_row_parity : (p k i : ℕ) → i < p → equation p k k i ≡ diagonal_set p k i
unfolding row_sets
equation_row_parity p k i l =
    equation_other p k k i (omega arith)
    ∙ ap (λ (rs : List ℕ). diagonal_set p k i ++ row_sets p k rs) (lost_diagonal_P p k i l)
    ∙ append-nil (diagonal_set p k i)

-- Q, or a disk before it
pub last_or : (k d : ℕ) → d < k + 2 → (d ≡ suc k) ⊎ (d ≤ k)
last_or k d h = ⊎_elim (λ l. inr (omega arith)) (λ l. inl (omega arith)) (lt_or_le d (suc k))

module _ (p k d i : ℕ) (l : i < p) (disk : d < k + 2) where
  -- every cell is one of the stripe
  pub equation_below : all_below (p * (k + 2)) (equation p k d i) ≡ true
  equation_below = ⊎_elim last other (last_or k d disk)
    where
      last : d ≡ suc k → all_below (p * (k + 2)) (equation p k d i) ≡ true
      last e = ap (λ (c : ℕ). all_below (p * (k + 2)) (equation p k c i)) e ∙ ap (all_below (p * (k + 2))) (equation_last p k i) ∙ set_below p k 0 i l

      other : d ≤ k → all_below (p * (k + 2)) (equation p k d i) ≡ true
      other h =
          ap (all_below (p * (k + 2))) (equation_other p k d i h)
          ∙ below_append (p * (k + 2)) (diagonal_set p k i) (row_sets p k (lost_in p d (diagonal_set p k i))) (set_below p k 1 i l) (row_sets_below p k (lost_in p d (diagonal_set p k i)) (lost_below p d (diagonal_set p k i) (omega arith)))

  -- a list of rows twice over
  pub equation_lost : (rs : List ℕ) × (all_below p rs ≡ true) × (lost_in p d (equation p k d i) ≡ rs ++ rs)
  equation_lost = ⊎_elim last other (last_or k d disk)
    where
      last : d ≡ suc k → (rs : List ℕ) × (all_below p rs ≡ true) × (lost_in p d (equation p k d i) ≡ rs ++ rs)
      last e = (
        [],
        refl,
        ap (λ (c : ℕ). lost_in p c (equation p k c i)) e ∙ ap (lost_in p (suc k)) (equation_last p k i) ∙ lost_row_Q p k i l,
      )

      other : d ≤ k → (rs : List ℕ) × (all_below p rs ≡ true) × (lost_in p d (equation p k d i) ≡ rs ++ rs)
      other h =
          let rs = lost_in p d (diagonal_set p k i) in
          let low : all_below p rs ≡ true = lost_below p d (diagonal_set p k i) (omega arith) in (
            rs,
            low,
            ap (lost_in p d) (equation_other p k d i h) ∙ lost_append p d (diagonal_set p k i) (row_sets p k rs) ∙ ap (λ (zs : List ℕ). rs ++ zs) (row_sets_lost p k d h rs low),
          )
