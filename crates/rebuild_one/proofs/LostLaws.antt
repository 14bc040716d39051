-- The cells of a set on the lost disk: its ordinary one, and the extra one where that is on the
-- disk too. Without the cell of a step, the other one is left, or none.
use mathlib.Core.Path.{◌≡◌, refl, sym, ap, ap₂, ◌∙◌}
use mathlib.Core.Bool.{Bool, true, false, ◌||◌, false≢true}
use mathlib.Core.Logic.{⊎_elim}
use mathlib.Core.List.{List, [], ◌∷◌}
use Prim.Native.Nat.{ℕ, ◌+◌, ◌%◌, ◌≤◌, ◌<◌}
use native.Mathlib.Omega.{arith}
use lib.Dec.{eqb, ltb, leb}
use borrow.Author.Tests.{eqb-true, eqb-false, eq-eqb, ne_eqb, lt-ltb, ltb-true, le-leb}
use Rattle.mathematics.specs.Choice.{pick}
use Rattle.mathematics.specs.Lists.{is_in}
use Rattle.mathematics.proofs.Flags.{and_r, and_i, or_cases}
use Rattle.mathematics.proofs.ListLaws.{is_in_append}
use Rattle.mathematics.proofs.KeptLaws.{Keeps, kept_same}
use Rattle.mathematics.proofs.MemberLaws.{in_below}
use Rattle.liberation.specs.Sets.{place, disk_at, extra_row, extra_disk, extra_of, has_extra, row_set, diagonal_set, set_of, lost_in}
use Rattle.liberation.proofs.SetLaws.{disk_place, in_lost, lost_below, in_ordinary_data}
use Rattle.liberation.proofs.DistinctLaws.{extra_apart}
use Rattle.liberation.proofs.LostLaws.{lost_diagonal}
use Rattle.liberation.specs.Stripes.Stripes.{without}
use Rattle.liberation.proofs.Stripes.OverLaws.{without_keeps}
use Rattle.stripe_cells.specs.OrdinaryCells.{ordinary_of}
use Rattle.stripe_cells.specs.SetCells.{extra_in}
use Rattle.stripe_cells.proofs.SetLists.{set_split, own_row, extra_row_lem, extra_first}

-- of rows that are all this one, no other is left
only_row : (row : ℕ) (ys : List ℕ) → ((y : ℕ) → is_in y ys ≡ true → row ≡ y) → without row ys ≡ []
only_row row ys f = kept_same (without_keeps row) none ys (λ y h. eq-eqb row y (f y h))
  where
    none : Keeps (λ x. true) (λ xs. [])
    none = record { none = refl; next = λ x xs. refl }

module _ (p k f row kind i : ℕ) (numbered : i < p) (rows : row < p) (own : is_in row (lost_in p f (set_of p k kind i)) ≡ true) where
  -- no extra cell on the disk
  alone : ((r : ℕ) → r < p → is_in (place p r f) (extra_in p k kind i) ≡ false) → without row (lost_in p f (set_of p k kind i)) ≡ []
  alone none = only_row row (lost_in p f (set_of p k kind i)) (λ y h. on row own ∙ sym (on y h))
    where
      on : (r : ℕ) → is_in r (lost_in p f (set_of p k kind i)) ≡ true → r ≡ pick (eqb kind 0) i (pick (ltb f k) ((i + f) % p) i)
      on r h =
          let b : r < p = in_below p r (lost_in p f (set_of p k kind i)) (lost_below p f (set_of p k kind i) (omega arith)) h in
          own_row p k kind i numbered r f b
          (⊎_elim (λ e. e) (λ e. absurd (false≢true (sym (none r b) ∙ e)))
          (or_cases (is_in (place p r f) (ordinary_of p k kind i)) (is_in (place p r f) (extra_in p k kind i))
          (sym (ap (is_in (place p r f)) (set_split p k kind i) ∙ is_in_append (place p r f) (ordinary_of p k kind i) (extra_in p k kind i)) ∙ sym (in_lost p f r (set_of p k kind i) b) ∙ h)))

  pub alone_row : kind ≡ 0 → without row (lost_in p f (set_of p k kind i)) ≡ []
  alone_row e = alone (λ r h. ap (is_in (place p r f)) (extra_row_lem p k kind i e))

  pub alone_first : i ≡ 0 → without row (lost_in p f (set_of p k kind i)) ≡ []
  alone_first e = alone (λ r h. ap (is_in (place p r f)) (extra_first p k kind i e))

  off : (has_extra p k i ≡ true → extra_disk p i ≡ f → ⊥) → (r : ℕ) → r < p → is_in (place p r f) (extra_in p k kind i) ≡ false
  off n r h = go (eqb kind 0) (has_extra p k i) refl
    where
      differ : has_extra p k i ≡ true → place p r f ≡ extra_of p i → ⊥
      differ t e = let b : extra_row p i < p = omega arith in n t (sym (disk_place p (extra_row p i) (extra_disk p i) b) ∙ ap (disk_at p) (sym e) ∙ disk_place p r f h)

      go : (a b : Bool) → has_extra p k i ≡ b → is_in (place p r f) (pick a [] (pick b (extra_of p i ∷ []) [])) ≡ false
      go true b t = refl
      go false false t = refl
      go false true t = ap (λ (x : Bool). x || false) (ne_eqb (place p r f) (extra_of p i) (differ t))

  -- the disk is P or Q
  pub alone_parity : k ≤ f → without row (lost_in p f (set_of p k kind i)) ≡ []
  alone_parity h = alone (off (λ t e. let d : extra_disk p i < k = ltb-true (extra_disk p i) k (and_r (leb 1 i) (ltb (extra_disk p i) k) t) in omega arith))

  pub alone_off : (extra_disk p i ≡ f → ⊥) → without row (lost_in p f (set_of p k kind i)) ≡ []
  alone_off n = alone (off (λ t. n))

  -- the extra cell on the disk, which is a data disk: the other one of the two
  module _ (diagonal : kind ≡ 0 → ⊥) (some : i ≡ 0 → ⊥) (low : f < k) (on : extra_disk p i ≡ f) where
    both : lost_in p f (set_of p k kind i) ≡ (i + f) % p ∷ (extra_row p i ∷ [])
    both =
        ap (λ (b : Bool). lost_in p f (pick b (row_set p k i) (diagonal_set p k i))) (ne_eqb kind 0 diagonal)
        ∙ lost_diagonal p k i f numbered low
        ∙ ap (λ (b : Bool). (i + f) % p ∷ pick b (extra_row p i ∷ []) []) (and_i (leb 1 i) (eqb (extra_disk p i) f) (le-leb 1 i (omega arith)) (eq-eqb (extra_disk p i) f on))

    two_rows : (i + f) % p ≡ extra_row p i → ⊥
    two_rows e =
        let b : extra_row p i < p = omega arith in
        let l : extra_disk p i < k = omega (arith, on, low) in
        eqb-false (extra_row p i) ((i + extra_disk p i) % p) (sym (in_ordinary_data p k i (extra_row p i) (extra_disk p i) b numbered l) ∙ extra_apart p k i numbered (and_i (leb 1 i) (ltb (extra_disk p i) k) (le-leb 1 i (omega arith)) (lt-ltb (extra_disk p i) k l)))
        (sym e ∙ ap (λ (c : ℕ). (i + c) % p) (sym on))

    -- without one of two different rows
    left : (a b : ℕ) (x y : Bool) → eqb row a ≡ x → eqb row b ≡ y → without row (a ∷ (b ∷ [])) ≡ pick x (pick y [] (b ∷ [])) (a ∷ pick y [] (b ∷ []))
    left a b x y e q =
        (without_keeps row).next a (b ∷ [])
        ∙ ap₂ (λ (t : Bool) (l : List ℕ). pick t l (a ∷ l)) e ((without_keeps row).next b [] ∙ ap₂ (λ (t : Bool) (l : List ℕ). pick t l (b ∷ l)) q (without_keeps row).none)

    pub other_extra : (extra_row p i ≡ row → ⊥) → without row (lost_in p f (set_of p k kind i)) ≡ extra_row p i ∷ []
    other_extra n =
        ap (without row) both
        ∙ left ((i + f) % p) (extra_row p i) true false here (ne_eqb row (extra_row p i) (λ e. n (sym e)))
      where
        here : eqb row ((i + f) % p) ≡ true
        here =
            ⊎_elim (λ e. e) (λ e. absurd (n (sym (eqb-true row (extra_row p i) (⊎_elim (λ q. q) (λ q. absurd (false≢true q)) (or_cases (eqb row (extra_row p i)) false e))))))
            (or_cases (eqb row ((i + f) % p)) (eqb row (extra_row p i) || false) (sym (ap (is_in row) both) ∙ own))

    pub other_ordinary : (r : ℕ) → extra_row p i ≡ row → r ≡ (i + f) % p → without row (lost_in p f (set_of p k kind i)) ≡ r ∷ []
    other_ordinary r e q =
        ap (without row) both
        ∙ left ((i + f) % p) (extra_row p i) false true (ne_eqb row ((i + f) % p) (λ w. two_rows (sym w ∙ sym e))) (eq-eqb row (extra_row p i) (sym e))
        ∙ ap (λ (x : ℕ). x ∷ []) (sym q)
