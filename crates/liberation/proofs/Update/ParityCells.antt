-- The parity cells of a data cell: the P cell of its row and the Q cell of each of its holders, two
-- or three different cells, none of them a data cell.
-- A set that holds the data cell holds one of them, its own parity cell, and any other set holds
-- none.
use mathlib.Core.Path.{◌≡◌, refl, sym, ap, ap₂, ◌∙◌}
use mathlib.Core.Bool.{Bool, true, false, ◌&&◌, ◌||◌, not, and-true, and-false, or-false, and-or_distrib_right}
use mathlib.Core.Logic.{◌⊎◌, inl, inr, ⊎_elim}
use mathlib.Core.List.{List, [], ◌∷◌}
use Prim.Native.Nat.{ℕ, suc, ◌+◌, ◌*◌, ◌%◌, ◌≤◌, ◌<◌}
use native.Mathlib.Nat.{mod-lt}
use native.Mathlib.Omega.{arith}
use lib.Dec.{eqb, ltb}
use borrow.Author.Tests.{eqb-true, eq-eqb, ne_eqb, le-leb, ltb-true, lt-ltb, not-true}
use Rattle.mathematics.specs.Choice.{pick}
use Rattle.mathematics.specs.Lists.{is_in, distinct, all_below}
use Rattle.mathematics.proofs.Flags.{flag, and_l, and_r, and_i, or_cases}
use Rattle.mathematics.proofs.TestLaws.{eqb_sym}
use Rattle.liberation.specs.Sets.{place, row_at, disk_at, extra_row, row_set, diagonal_set}
use Rattle.liberation.specs.Plans.{diagonal_of}
use Rattle.liberation.proofs.SetLaws.{disk_place, place_of, place_eq, place_below, in_row, in_diagonal_parity}
use Rattle.liberation.proofs.PlaceLaws.{disk_below, row_disk}
use Rattle.liberation.specs.Update.Updates.{holders, cells_on, parity_of}
use Rattle.liberation.proofs.Update.HolderLaws.{in_holders, holders_below, holders_distinct, holders_next}

-- cells of one disk, by their rows
module _ (p c : ℕ) where
  in_cells : (is : List ℕ) → all_below p is ≡ true → (i d : ℕ) → i < p → is_in (place p i d) (cells_on p c is) ≡ (is_in i is && eqb d c)
  unfolding cells_on
  in_cells [] low i d h = refl
  in_cells (j ∷ is) low i d h =
      ap₂ ◌||◌ (place_eq p i d j c h (ltb-true j p (and_l (ltb j p) (all_below p is) low))) (in_cells is (and_r (ltb j p) (all_below p is) low) i d h)
      ∙ sym (and-or_distrib_right (eqb i j) (is_in i is) (eqb d c))

  cells_below : (m : ℕ) → c < m → (is : List ℕ) → all_below p is ≡ true → all_below (p * m) (cells_on p c is) ≡ true
  unfolding cells_on
  cells_below m l [] low = refl
  cells_below m l (j ∷ is) low =
      and_i _ _
      (lt-ltb (place p j c) (p * m) (place_below p m j c (ltb-true j p (and_l _ _ low)) l))
      (cells_below m l is (and_r (ltb j p) (all_below p is) low))

  cells_distinct : (is : List ℕ) → all_below p is ≡ true → distinct is ≡ true → distinct (cells_on p c is) ≡ true
  unfolding cells_on
  cells_distinct [] low once = refl
  cells_distinct (j ∷ is) low once =
      let rest = and_r (ltb j p) (all_below p is) low in
      and_i _ _
      (ap not (in_cells is rest j c (ltb-true j p (and_l _ _ low)) ∙ ap (λ (b : Bool). b && eqb c c) (not-true (is_in j is) (and_l _ _ once))))
      (cells_distinct is rest (and_r (not (is_in j is)) (distinct is) once))

-- the parity cells of (r, c)
module _ (p k r c : ℕ) (h : r < p) where
  pub in_parity : (i d : ℕ) → i < p → is_in (place p i d) (parity_of p k r c) ≡ ((eqb i r && eqb d k) || (is_in i (holders p r c) && eqb d (suc k)))
  unfolding parity_of
  in_parity i d l = ap₂ ◌||◌ (place_eq p i d r k l h) (in_cells p (suc k) (holders p r c) (holders_below p r c h) i d l)

  -- on P that of its row
  pub parity_row : (i : ℕ) → i < p → is_in (place p i k) (parity_of p k r c) ≡ eqb i r
  parity_row i l =
      in_parity i k l
      ∙ ap₂ (λ (a b : Bool). (eqb i r && a) || (is_in i (holders p r c) && b)) (eq-eqb k k refl) (ne_eqb k (suc k) (λ e. omega arith))
      ∙ ap₂ ◌||◌ (and-true (eqb i r)) (and-false (is_in i (holders p r c)))
      ∙ or-false (eqb i r)

  -- on Q those of its holders
  pub parity_diagonal : (i : ℕ) → i < p → is_in (place p i (suc k)) (parity_of p k r c) ≡ is_in i (holders p r c)
  parity_diagonal i l =
      in_parity i (suc k) l
      ∙ ap₂ (λ (a b : Bool). (eqb i r && a) || (is_in i (holders p r c) && b)) (ne_eqb (suc k) k (λ e. omega arith)) (eq-eqb (suc k) (suc k) refl)
      ∙ ap₂ ◌||◌ (and-false (eqb i r)) (and-true (is_in i (holders p r c)))

  -- and none else
  pub parity_cases : (y : ℕ) → is_in y (parity_of p k r c) ≡ true → (y ≡ place p r k) ⊎ ((j : ℕ) × (j < p) × (y ≡ place p j (suc k)))
  parity_cases y t =
      ⊎_elim (λ e. inl (on_p e)) (λ e. inr (row_at p y, row, on_q e))
      (or_cases _ _
      (sym (in_parity (row_at p y) (disk_at p y) row) ∙ ap (λ (z : ℕ). is_in z (parity_of p k r c)) (place_of p y) ∙ t))
    where
      row : row_at p y < p
      row = mod-lt y (omega arith)

      on_p : (eqb (row_at p y) r && eqb (disk_at p y) k) ≡ true → y ≡ place p r k
      on_p e = sym (place_of p y) ∙ ap₂ (place p) (eqb-true (row_at p y) r (and_l (eqb (row_at p y) r) (eqb (disk_at p y) k) e)) (eqb-true (disk_at p y) k (and_r (eqb (row_at p y) r) (eqb (disk_at p y) k) e))

      on_q : (is_in (row_at p y) (holders p r c) && eqb (disk_at p y) (suc k)) ≡ true → y ≡ place p (row_at p y) (suc k)
      on_q e = sym (place_of p y) ∙ ap (place p (row_at p y)) (eqb-true (disk_at p y) (suc k) (and_r (is_in (row_at p y) (holders p r c)) (eqb (disk_at p y) (suc k)) e))

  -- no data cell
  pub parity_data : (y : ℕ) → y < p * k → is_in y (parity_of p k r c) ≡ false
  parity_data y l = ⊎_elim (λ t. absurd (⊎_elim (λ e. on_k k r h (omega arith) e) (λ w. on_k (suc k) w.0 w.1 (omega arith) w.2) (parity_cases y t))) (λ t. t) (flag (is_in y (parity_of p k r c)))
    where
      on_k : (d j : ℕ) → j < p → k ≤ d → y ≡ place p j d → ⊥
      on_k d j m n e = omega (arith, disk_below p k y l, ap (disk_at p) e, disk_place p j d m)

  pub parity_below : all_below (p * (k + 2)) (parity_of p k r c) ≡ true
  unfolding parity_of
  parity_below =
      and_i _ _
      (lt-ltb (place p r k) (p * (k + 2)) (place_below p (k + 2) r k h (omega arith)))
      (cells_below p (suc k) (k + 2) (omega arith) (holders p r c) (holders_below p r c h))

  pub parity_distinct : p % 2 ≡ 1 → distinct (parity_of p k r c) ≡ true
  unfolding parity_of
  parity_distinct odd =
      and_i _ _
      (ap not (in_cells p (suc k) (holders p r c) (holders_below p r c h) r k h ∙ ap (λ (b : Bool). is_in r (holders p r c) && b) (ne_eqb k (suc k) (λ e. omega arith)) ∙ and-false (is_in r (holders p r c))))
      (cells_distinct p (suc k) (holders p r c) (holders_below p r c h) (holders_distinct p r c odd h))

  -- one by one: the P cell, the Q cell of the cell's own diagonal, and that of the next one where
  -- its extra cell is this cell
  pub parity_list :
      p % 2 ≡ 1 → c < p
      → parity_of p k r c ≡ place p r k ∷ (place p (diagonal_of p c r) (suc k) ∷ pick (eqb (suc (diagonal_of p c r)) (extra_row p r)) (place p (suc (diagonal_of p c r)) (suc k) ∷ []) [])
  unfolding parity_of cells_on
  parity_list odd l = ap (λ (is : List ℕ). place p r k ∷ cells_on p (suc k) is) (holders_next p r c odd h l) ∙ go (eqb (suc (diagonal_of p c r)) (extra_row p r))
    where
      go : (b : Bool) → (place p r k ∷ cells_on p (suc k) (diagonal_of p c r ∷ pick b (suc (diagonal_of p c r) ∷ []) [])) ≡ place p r k ∷ (place p (diagonal_of p c r) (suc k) ∷ pick b (place p (suc (diagonal_of p c r)) (suc k) ∷ []) [])
      go true = refl
      go false = refl

  -- the sets that hold the data cell: each has one of its parity cells, the set's own
  module _ (most : k ≤ p) (l : c < k) (i : ℕ) (m : i < p) where
    pub row_parity_held : is_in (place p i k) (parity_of p k r c) ≡ is_in (place p r c) (row_set p k i)
    row_parity_held = parity_row i m ∙ eqb_sym i r ∙ sym (in_row p k i r c h m ∙ ap (λ (b : Bool). eqb r i && b) (le-leb c k (omega arith)) ∙ and-true (eqb r i))

    pub diagonal_parity_held : is_in (place p i (suc k)) (parity_of p k r c) ≡ is_in (place p r c) (diagonal_set p k i)
    diagonal_parity_held = parity_diagonal i m ∙ in_holders p k r c i most h l m

    pub row_parity_only : (y : ℕ) → is_in y (row_set p k i) ≡ true → (y ≡ place p i k → ⊥) → is_in y (parity_of p k r c) ≡ false
    row_parity_only y t n = ⊎_elim (λ q. absurd (⊎_elim on_p (λ w. on_q w.0 w.1 w.2) (parity_cases y q))) (λ q. q) (flag (is_in y (parity_of p k r c)))
      where
        on_p : y ≡ place p r k → ⊥
        on_p e = n (e ∙ ap (λ (j : ℕ). place p j k) (eqb-true r i (and_l _ _ (sym (in_row p k i r k h m) ∙ ap (λ (z : ℕ). is_in z (row_set p k i)) (sym e) ∙ t))))

        on_q : (j : ℕ) → j < p → y ≡ place p j (suc k) → ⊥
        on_q j w e = omega (arith, row_disk p k i y m t, ap (disk_at p) e, disk_place p j (suc k) w)

    pub diagonal_parity_only : (y : ℕ) → is_in y (diagonal_set p k i) ≡ true → (y ≡ place p i (suc k) → ⊥) → is_in y (parity_of p k r c) ≡ false
    diagonal_parity_only y t n = ⊎_elim (λ q. absurd (⊎_elim on_p (λ w. on_q w.0 w.1 w.2) (parity_cases y q))) (λ q. q) (flag (is_in y (parity_of p k r c)))
      where
        at : (j d : ℕ) → j < p → k ≤ d → y ≡ place p j d → (eqb d (suc k) && eqb j i) ≡ true
        at j d w v e = sym (in_diagonal_parity p k i j d w m v) ∙ ap (λ (z : ℕ). is_in z (diagonal_set p k i)) (sym e) ∙ t

        on_p : y ≡ place p r k → ⊥
        on_p e = omega (arith, eqb-true k (suc k) (and_l _ _ (at r k h (omega arith) e)))

        on_q : (j : ℕ) → j < p → y ≡ place p j (suc k) → ⊥
        on_q j w e = n (e ∙ ap (λ (z : ℕ). place p z (suc k)) (eqb-true j i (and_r (eqb (suc k) (suc k)) (eqb j i) (at j (suc k) w (omega arith) e))))
