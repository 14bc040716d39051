-- The ordinary cells of a set as they are pushed: those on data disks and the parity cell, each but
-- on the lost disks.
use mathlib.Core.Path.{◌≡◌, refl, ap, ◌∙◌}
use mathlib.Core.Bool.{Bool, true, false, ◌||◌}
use mathlib.Core.List.{List, [], ◌∷◌, ◌++◌}
use Prim.Native.Nat.{ℕ, suc, ◌+◌, ◌-◌, ◌≤◌, ◌<◌}
use native.Mathlib.Nat.{zero-add}
use native.Mathlib.Omega.{arith}
use lib.Dec.{eqb}
use borrow.Author.Tests.{eq-eqb, ne_eqb, eqb-true}
use Rattle.mathematics.specs.Choice.{pick}
use Rattle.mathematics.proofs.KeptLaws.{Keeps, both_keep, kept_append}
use Rattle.mathematics.proofs.Walks.{walk_last}
use Rattle.liberation.specs.Sets.{place, disk_at, row_from, diagonal_from, row_set, ordinary, surviving_in}
use Rattle.liberation.proofs.SetLaws.{disk_place, surviving_keeps}
use Rattle.stripe_cells.specs.Offsets.{cells_from}
use Rattle.stripe_cells.proofs.KeptLaws.{cell_walk}
use Rattle.stripe_cells.specs.OrdinaryCells.{survivors, ordinary_of, parity_disk}

pub survivors_keep : (p x y : ℕ) → Keeps (λ c. eqb (disk_at p c) y || eqb (disk_at p c) x) (survivors p x y)
survivors_keep p x y = both_keep (surviving_keeps p x) (surviving_keeps p y)

pub survivors_append : (p x y : ℕ) (xs ys : List ℕ) → survivors p x y (xs ++ ys) ≡ survivors p x y xs ++ survivors p x y ys
survivors_append p x y = kept_append (survivors_keep p x y)

-- one cell: on disk y, on disk x, or on neither
module _ (p x y r c : ℕ) (row : r < p) where
  one : (f : ℕ) (b : Bool) → eqb c f ≡ b → surviving_in p f (place p r c ∷ []) ≡ pick b [] (place p r c ∷ [])
  one f b e =
      (surviving_keeps p f).next (place p r c) []
      ∙ ap (λ (l : List ℕ). pick (eqb (disk_at p (place p r c)) f) l (place p r c ∷ l)) (surviving_keeps p f).none
      ∙ ap (λ (t : Bool). pick t [] (place p r c ∷ [])) (ap (λ (d : ℕ). eqb d f) (disk_place p r c row) ∙ e)

  pub one_lost_y : c ≡ y → survivors p x y (place p r c ∷ []) ≡ []
  one_lost_y e = ap (surviving_in p x) (one y true (eq-eqb c y e)) ∙ (surviving_keeps p x).none

  pub one_lost_x : c ≡ x → survivors p x y (place p r c ∷ []) ≡ []
  one_lost_x e = go (eqb c y) refl
    where
      go : (b : Bool) → eqb c y ≡ b → survivors p x y (place p r c ∷ []) ≡ []
      go true q = one_lost_y (eqb-true c y q)
      go false q = ap (surviving_in p x) (one y false q) ∙ one x true (eq-eqb c x e)

  pub one_kept : (c ≡ x → ⊥) → (c ≡ y → ⊥) → survivors p x y (place p r c ∷ []) ≡ place p r c ∷ []
  one_kept n m = ap (surviving_in p x) (one y false (ne_eqb c y m)) ∙ one x false (ne_eqb c x n)

module _ (p k kind i : ℕ) where
  -- the cells on data disks, and the parity cell
  pub ordinary_split : ordinary_of p k kind i ≡ cells_from kind k p i 0 ++ (place p i (parity_disk k kind) ∷ [])
  unfolding row_set ordinary
  ordinary_split = go (eqb kind 0)
    where
      go : (b : Bool) → pick b (row_set p k i) (ordinary p k i) ≡ pick b (row_from k p i 0) (diagonal_from k p i 0) ++ (place p i (pick b k (suc k)) ∷ [])
      go true = walk_last (cell_walk 0 p i) k 0 ∙ ap (λ (c : ℕ). row_from k p i 0 ++ (place p i c ∷ [])) (zero-add k)
      go false = refl

  pub parity_most : parity_disk k kind ≤ k + 1
  parity_most = go (eqb kind 0)
    where
      go : (b : Bool) → pick b k (suc k) ≤ k + 1
      go true = omega arith
      go false = omega arith

-- the list has room for the cells after y; hx and hy are the smaller ones of x and k, and of y and
-- k
at_most : (k x h : ℕ) → h ≡ k - (k - x) → (h ≤ x) × (h ≤ k)
at_most k x h e = (omega arith, omega arith)

after_fits : (k x y hx hy n m : ℕ) → (hx ≤ x) × (hx ≤ k) → (hy ≤ y) × (hy ≤ k) → x ≤ y → n ≡ 0 + (hx - 0) → m ≡ n + (hy - (x + 1)) → m + (k - (y + 1)) ≤ k
after_fits k x y hx hy n m u v l e w = omega arith

pub room_after : (k x y hx hy n m : ℕ) → hx ≡ k - (k - x) → hy ≡ k - (k - y) → x ≤ y → n ≡ 0 + (hx - 0) → m ≡ n + (hy - (x + 1)) → m + (k - (y + 1)) ≤ k
room_after k x y hx hy n m e q = after_fits k x y hx hy n m (at_most k x hx e) (at_most k y hy q)
