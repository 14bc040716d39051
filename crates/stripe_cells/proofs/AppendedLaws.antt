-- Offsets of cells appended to a list, a part of a set after the other: those on data disks before,
-- between and after two disks, the parity cell, the extra cell.
use mathlib.Core.Path.{◌≡◌, refl, sym, ap, ap₂, ◌∙◌}
use mathlib.Core.Bool.{Bool, true, false, ◌||◌, or_comm}
use mathlib.Core.Logic.{⊎_elim}
use mathlib.Core.List.{List, [], ◌∷◌, ◌++◌, append_assoc, append-nil}
use Prim.Native.Nat.{ℕ, ◌+◌, ◌-◌, ◌≤◌, ◌<◌}
use native.Mathlib.Numerals.{add-one}
use native.Mathlib.Omega.{arith}
use lib.Dec.{eqb}
use lib.ListN.{length, length-append}
use Rattle.std.proofs.Common.{min, max}
use Rattle.mathematics.specs.Choice.{pick}
use Rattle.mathematics.proofs.KeptLaws.{kept_short}
use Rattle.mathematics.proofs.OrderLaws.{lt_or_le}
use Rattle.mathematics.proofs.Walks.{walk_long}
use Rattle.liberation.specs.Sets.{place, disk_at, set_of}
use Rattle.liberation.proofs.SetLaws.{disk_place}
use Rattle.liberation.proofs.SetSizes.{size_most}
use Rattle.parity_sets.specs.declared.set.ParitySet.{ParitySet}
use Rattle.parity_sets.specs.declared.set.ParitySet.TheVariants.{Row, Diagonal}
use Rattle.parity_sets.specs.ParitySets.{kind_of, number_of}
use Rattle.stripe_cells.specs.Offsets.{scaled, cells_from}
use Rattle.stripe_cells.specs.OrdinaryCells.{survivors, ordinary_of, parity_disk}
use Rattle.stripe_cells.specs.SetCells.{extra_in}
use Rattle.stripe_cells.proofs.OffsetLaws.{length_scaled, scaled_append}
use Rattle.stripe_cells.proofs.KeptLaws.{row_in, row_in_below, cell_walk, surviving_two}
use Rattle.stripe_cells.proofs.OrdinaryLists.{survivors_keep, survivors_append, ordinary_split}
use Rattle.stripe_cells.proofs.SetLists.{survivors_none, survivors_swap, set_split, extra_survives}

-- nothing appended, and two lists of cells one after the other
pub none_appended : {xs : List ℕ} (s : ℕ) (a : List ℕ) → xs ≡ [] → a ≡ a ++ scaled s xs
unfolding scaled
none_appended s a e = sym (append-nil a) ∙ ap (λ (l : List ℕ). a ++ scaled s l) (sym e)

pub both_appended : (zs a b c : List ℕ) (s : ℕ) (xs ys : List ℕ) → zs ≡ xs ++ ys → b ≡ a ++ scaled s xs → c ≡ b ++ scaled s ys → c ≡ a ++ scaled s zs
both_appended zs a b c s xs ys e u v =
    v ∙ ap (λ (l : List ℕ). l ++ scaled s ys) u ∙ append_assoc a (scaled s xs) (scaled s ys) ∙ ap (λ (l : List ℕ). a ++ l) (sym (ap (scaled s) e ∙ scaled_append s xs ys))

-- as many offsets as cells
pub length_appended : (a b : List ℕ) (s : ℕ) (xs : List ℕ) → b ≡ a ++ scaled s xs → length b ≡ length a + length xs
length_appended a b s xs e = ap length e ∙ length-append a (scaled s xs) ∙ ap (λ (n : ℕ). length a + n) (length_scaled s xs)

-- two disks in either order
pub two_lost : (p x y a b : ℕ) (xs : List ℕ) → a ≡ min x y → b ≡ max x y → survivors p a b xs ≡ survivors p x y xs
two_lost p x y a b xs e q =
    ⊎_elim
    (λ h. let u : a ≡ x = omega arith in let v : b ≡ y = omega arith in ap₂ (λ (i j : ℕ). survivors p i j xs) u v)
    (λ h. let u : a ≡ y = omega arith in let v : b ≡ x = omega arith in ap₂ (λ (i j : ℕ). survivors p i j xs) u v ∙ survivors_swap p y x xs)
    (lt_or_le x y)

-- a cell on a lost disk, and one on another
module _ (p x y r c : ℕ) (row : r < p) where
  one : (b : Bool) → (eqb c x || eqb c y) ≡ b → survivors p x y (place p r c ∷ []) ≡ pick b [] (place p r c ∷ [])
  one b e =
      (survivors_keep p x y).next (place p r c) []
      ∙ ap (λ (l : List ℕ). pick (eqb (disk_at p (place p r c)) y || eqb (disk_at p (place p r c)) x) l (place p r c ∷ l)) (survivors_none p x y)
      ∙ ap (λ (t : Bool). pick t [] (place p r c ∷ [])) (ap (λ (d : ℕ). eqb d y || eqb d x) (disk_place p r c row) ∙ or_comm (eqb c y) (eqb c x) ∙ e)

  pub one_lost : (eqb c x || eqb c y) ≡ true → survivors p x y (place p r c ∷ []) ≡ []
  one_lost e = one true e

  pub one_left : (eqb c x || eqb c y) ≡ false → survivors p x y (place p r c ∷ []) ≡ place p r c ∷ []
  one_left e = one false e

module _ (p k s kind i : ℕ) where
  -- so many cells of some disks
  pub data_length : (a b : List ℕ) (n c : ℕ) → b ≡ a ++ scaled s (cells_from kind n p i c) → length b ≡ length a + n
  data_length a b n c e = length_appended a b s (cells_from kind n p i c) e ∙ ap (λ (m : ℕ). length a + m) (walk_long (cell_walk kind p i) n c)

  -- the cells before x, between x and y, and after y; hx and hy are the smaller ones of x and k, and
  -- of y and k
  pub data_appended : (a b c d : List ℕ) (x y hx hy : ℕ) → i < p → x ≤ y → hx ≡ min x k → hy ≡ min y k → b ≡ a ++ scaled s (cells_from kind (hx - 0) p i 0) → c ≡ b ++ scaled s (cells_from kind (hy - (x + 1)) p i (x + 1)) → d ≡ c ++ scaled s (cells_from kind (k - (y + 1)) p i (y + 1))
      → d ≡ a ++ scaled s (survivors p x y (cells_from kind k p i 0))
  data_appended a b c d x y hx hy h o e q u v w =
      let f : k - (k - x) ≡ hx = omega arith in
      let g : k - (k - y) ≡ hy = omega arith in
      both_appended _ a c d s (cells_from kind (hx - 0) p i 0 ++ cells_from kind (hy - (x + 1)) p i (x + 1)) (cells_from kind (k - (y + 1)) p i (y + 1))
      (surviving_two p (row_in kind p i) (λ c. row_in_below kind p i c h) (cell_walk kind p i) x y k o
      ∙ ap₂ (λ (m j : ℕ). (cells_from kind (m - 0) p i 0 ++ cells_from kind (j - (x + 1)) p i (x + 1)) ++ cells_from kind (k - (y + 1)) p i (y + 1)) f g)
      (both_appended _ a b c s (cells_from kind (hx - 0) p i 0) (cells_from kind (hy - (x + 1)) p i (x + 1)) refl u v)
      w

  -- the ordinary cells from those on data disks and the parity cell
  pub ordinary_appended : (a b c : List ℕ) (x y q : ℕ) → q ≡ parity_disk k kind → b ≡ a ++ scaled s (survivors p x y (cells_from kind k p i 0)) → c ≡ b ++ scaled s (survivors p x y (place p i q ∷ [])) → c ≡ a ++ scaled s (survivors p x y (ordinary_of p k kind i))
  ordinary_appended a b c x y q e u v =
      both_appended _ a b c s (survivors p x y (cells_from kind k p i 0)) (survivors p x y (place p i q ∷ []))
      (ap (survivors p x y) (ordinary_split p k kind i ∙ ap (λ (d : ℕ). cells_from kind k p i 0 ++ (place p i d ∷ [])) (sym e)) ∙ survivors_append p x y (cells_from kind k p i 0) (place p i q ∷ []))
      u
      v

  -- so many of them at most
  pub ordinary_length : (a b : List ℕ) (x y : ℕ) → b ≡ a ++ scaled s (survivors p x y (ordinary_of p k kind i)) → length b ≤ length a + (k + 1)
  ordinary_length a b x y e =
      let q : length (ordinary_of p k kind i) ≡ k + 1 = ap length (ordinary_split p k kind i) ∙ length-append (cells_from kind k p i 0) (place p i (parity_disk k kind) ∷ []) ∙ ap (λ (n : ℕ). n + 1) (walk_long (cell_walk kind p i) k 0) in
      omega (arith, length_appended a b s (survivors p x y (ordinary_of p k kind i)) e, kept_short (survivors_keep p x y) (ordinary_of p k kind i))

  -- the set from its ordinary cells and the extra cell
  pub set_appended : (a b c : List ℕ) (x y : ℕ) → b ≡ a ++ scaled s (survivors p x y (ordinary_of p k kind i)) → c ≡ b ++ scaled s (survivors p x y (extra_in p k kind i)) → c ≡ a ++ scaled s (survivors p x y (set_of p k kind i))
  set_appended a b c x y u v = both_appended _ a b c s (survivors p x y (ordinary_of p k kind i)) (survivors p x y (extra_in p k kind i)) (ap (survivors p x y) (set_split p k kind i) ∙ survivors_append p x y (ordinary_of p k kind i) (extra_in p k kind i)) u v

  -- so many of the set at most
  pub set_length : (a b : List ℕ) (x y : ℕ) → b ≡ a ++ scaled s (survivors p x y (set_of p k kind i)) → length b ≤ length a + (k + 2)
  set_length a b x y e = omega (arith, length_appended a b s (survivors p x y (set_of p k kind i)) e, kept_short (survivors_keep p x y) (set_of p k kind i), size_most p k kind i)

  -- the set without an ordinary cell: disk 33 is none of an array's
  pub others_appended : (a b c : List ℕ) (f l h m n : ℕ) → i < p → k ≤ 33 → (l ≡ f) × (h ≡ f) → (m ≡ 33) × (n ≡ 33) → b ≡ a ++ scaled s (survivors p l h (ordinary_of p k kind i)) → c ≡ b ++ scaled s (survivors p m n (extra_in p k kind i))
      → c ≡ a ++ scaled s (survivors p f f (ordinary_of p k kind i) ++ extra_in p k kind i)
  others_appended a b c f l h m n numbered few e q u v =
      both_appended _ a b c s (survivors p f f (ordinary_of p k kind i)) (extra_in p k kind i) refl
      (u ∙ ap₂ (λ (x y : ℕ). a ++ scaled s (survivors p x y (ordinary_of p k kind i))) e.0 e.1)
      (v ∙ ap₂ (λ (x y : ℕ). b ++ scaled s (survivors p x y (extra_in p k kind i))) q.0 q.1 ∙ ap (λ (xs : List ℕ). b ++ scaled s xs) (extra_survives p k kind i numbered 33 few))

-- a row set's parity cell is on P, a diagonal set's on Q
pub row_ordinary : (set : ParitySet) (p k s i x y : ℕ) (a b c : List ℕ) → set ≡ Row i → b ≡ a ++ scaled s (survivors p x y (cells_from (kind_of set) k p (number_of set) 0)) → c ≡ b ++ scaled s (survivors p x y (place p i k ∷ []))
    → c ≡ a ++ scaled s (survivors p x y (ordinary_of p k (kind_of set) (number_of set)))
row_ordinary set p k s i x y a b c e = rw e (λ u v. ordinary_appended p k s 0 i a b c x y k refl u v)

pub diagonal_ordinary : (set : ParitySet) (p k s i x y : ℕ) (a b c : List ℕ) → set ≡ Diagonal i → b ≡ a ++ scaled s (survivors p x y (cells_from (kind_of set) k p (number_of set) 0)) → c ≡ b ++ scaled s (survivors p x y (place p i (k + 1) ∷ []))
    → c ≡ a ++ scaled s (survivors p x y (ordinary_of p k (kind_of set) (number_of set)))
diagonal_ordinary set p k s i x y a b c e = rw e (λ u v. ordinary_appended p k s 1 i a b c x y (k + 1) (add-one k) u v)
