-- Cells in a flat list of bytes: a cell that is put in stands there and leaves the others, and a
-- list is told by its cells.
-- A column is a cell of p × s bytes, so a column put in is a cell put in, and its rows are cells of
-- the stripe.
use mathlib.Core.Path.{◌≡◌, refl, sym, ap, ap₂, ◌∙◌}
use mathlib.Core.Logic.{◌⊎◌, inl, inr, ⊎_elim}
use mathlib.Core.List.{List, [], ◌∷◌, ◌++◌, append_assoc}
use Prim.Native.Nat.{ℕ, zero, suc, ◌+◌, ◌-◌, ◌*◌, ◌≤◌, ◌<◌}
use native.Mathlib.Nat.{mod-lt, mul-le-mul_right}
use native.Mathlib.Omega.{arith}
use lib.ListN.{length, take, drop, length-append, length-take, length-drop, take-append-drop}
use lib.Seq.{length-take-le, take_at, drop_at, drop-drop, take-append-le, drop-append-le, take-append-add, drop-append-add}
use Rattle.mathematics.proofs.OrderLaws.{lt_or_gt}
use Rattle.mathematics.proofs.ListLaws.{part_front}
use Rattle.liberation.specs.Sets.{place, row_at, disk_at}
use Rattle.liberation.proofs.SetLaws.{place_of}
use Rattle.liberation.specs.Stripes.Stripes.{cell_at, with_cell, column_of, with_column}

-- a list cut in three
cut_whole : (a n : ℕ) (t : List ℕ) → take a t ++ (take n (drop a t) ++ drop (a + n) t) ≡ t
cut_whole a n t =
    ap (λ (l : List ℕ). take a t ++ (take n (drop a t) ++ l)) (sym (drop-drop n a t))
    ∙ ap (λ (l : List ℕ). take a t ++ l) (take-append-drop n (drop a t))
    ∙ take-append-drop a t

pub cell_fits : (n s x : ℕ) → x < n → x * s + s ≤ n * s
cell_fits n s x h = omega (arith, mul-le-mul_right s h)

-- two different cells do not meet
pub cells_apart : (s x y : ℕ) → (x ≡ y → ⊥) → (x * s + s ≤ y * s) ⊎ (y * s + s ≤ x * s)
cells_apart s x y n = ⊎_elim (λ l. inl (cell_fits y s x l)) (λ l. inr (cell_fits x s y l)) (lt_or_gt x y n)

pub cell_long : (s x : ℕ) (t : List ℕ) → x * s + s ≤ length t → length (cell_at s t x) ≡ s
cell_long s x t h = simp (length-take, length-drop) (omega arith)

-- the cell that stands there already
pub with_same : (s x : ℕ) (t : List ℕ) → with_cell s x (cell_at s t x) t ≡ t
with_same s x t = cut_whole (x * s) s t

module _ (s x : ℕ) (new t : List ℕ) (long : length new ≡ s) (fits : x * s + s ≤ length t) where
  before_long : length (take (x * s) t) ≡ x * s
  before_long = length-take-le (x * s) t (omega arith)

  take_with : take (x * s) (with_cell s x new t) ≡ take (x * s) t
  take_with = take_at (take (x * s) t) (new ++ drop (x * s + s) t) (x * s) before_long

  drop_with : drop (x * s) (with_cell s x new t) ≡ new ++ drop (x * s + s) t
  drop_with = drop_at (take (x * s) t) (new ++ drop (x * s + s) t) (x * s) before_long

  after_with : drop (x * s + s) (with_cell s x new t) ≡ drop (x * s + s) t
  after_with = sym (drop-drop s (x * s) (with_cell s x new t)) ∙ ap (drop s) drop_with ∙ drop_at new (drop (x * s + s) t) s long

  pub length_with : length (with_cell s x new t) ≡ length t
  length_with = simp (length-append, length-drop) (omega (arith, before_long))

  pub cell_with : cell_at s (with_cell s x new t) x ≡ new
  cell_with = ap (take s) drop_with ∙ take_at new (drop (x * s + s) t) s long

  -- put in twice: the second stands
  pub with_with : (again : List ℕ) → with_cell s x again (with_cell s x new t) ≡ with_cell s x again t
  with_with again = ap₂ (λ (u v : List ℕ). u ++ (again ++ v)) take_with after_with

  -- the other cells lie before it or after it
  pub cell_other : (y : ℕ) → (y ≡ x → ⊥) → cell_at s (with_cell s x new t) y ≡ cell_at s t y
  cell_other y n = ⊎_elim before after (lt_or_gt y x n)
    where
      before : y < x → cell_at s (with_cell s x new t) y ≡ cell_at s t y
      before l =
          let m : y * s + s ≤ x * s = cell_fits x s y l in
          sym (part_front (y * s) s (x * s) (with_cell s x new t) m) ∙ ap (λ (u : List ℕ). take s (drop (y * s) u)) take_with ∙ part_front (y * s) s (x * s) t m

      -- what lies past the cell, from its y on
      past : (u : List ℕ) (m : ℕ) → x * s + s + m ≡ y * s → drop (y * s) u ≡ drop m (drop (x * s + s) u)
      past u m e = sym (drop-drop m (x * s + s) u ∙ ap (λ (i : ℕ). drop i u) e)

      after : x < y → cell_at s (with_cell s x new t) y ≡ cell_at s t y
      after l =
          let m : x * s + s ≤ y * s = cell_fits y s x l in
          let e : x * s + s + (y * s - (x * s + s)) ≡ y * s = omega arith in
          ap (take s) (past (with_cell s x new t) (y * s - (x * s + s)) e ∙ ap (drop (y * s - (x * s + s))) after_with ∙ sym (past t (y * s - (x * s + s)) e))

-- the cells after the first
next_cell : (s x : ℕ) (t : List ℕ) → cell_at s (drop s t) x ≡ cell_at s t (suc x)
next_cell s x t = let e : s + x * s ≡ suc x * s = omega arith in ap (take s) (drop-drop (x * s) s t) ∙ ap (λ (n : ℕ). take s (drop n t)) e

first_cell_lem : (s : ℕ) (t : List ℕ) → take s t ≡ cell_at s t 0
first_cell_lem s t = let e : 0 ≡ 0 * s = omega arith in ap (λ (n : ℕ). take s (drop n t)) e

-- two lists of n cells each are equal if all their cells are
pub cells_equal : (n s : ℕ) (t u : List ℕ) → length t ≡ n * s → length u ≡ n * s → ((x : ℕ) → x < n → cell_at s t x ≡ cell_at s u x) → t ≡ u
cells_equal zero s t u e q h = empty t (omega arith) ∙ sym (empty u (omega arith))
  where
    empty : (l : List ℕ) → length l ≡ 0 → l ≡ []
    empty [] z = refl
    empty (y ∷ l) z = absurd (omega arith)
cells_equal (suc n) s t u e q h =
    sym (take-append-drop s t)
    ∙ ap₂ (λ (a b : List ℕ). a ++ b)
    (first_cell_lem s t ∙ h 0 (omega arith) ∙ sym (first_cell_lem s u))
    (cells_equal n s (drop s t) (drop s u) (simp length-drop (omega arith)) (simp length-drop (omega arith)) (λ x l. next_cell s x t ∙ h (suc x) (omega arith) ∙ sym (next_cell s x u)))
    ∙ take-append-drop s u

-- a row of a column is a cell of the stripe
pub column_cell : (p s c r : ℕ) (t : List ℕ) → r < p → cell_at s (column_of p s c t) r ≡ cell_at s t (place p r c)
column_cell p s c r t h =
    let e : c * (p * s) + r * s ≡ place p r c * s = omega arith in
    part_front (r * s) s (p * s) (drop (c * (p * s)) t) (cell_fits p s r h) ∙ ap (take s) (drop-drop (r * s) (c * (p * s)) t) ∙ ap (λ (n : ℕ). take s (drop n t)) e

-- a cell of the stripe by its disk and row
by_place : (p s x : ℕ) (t : List ℕ) → 0 < p → cell_at s t x ≡ cell_at s (column_of p s (disk_at p x) t) (row_at p x)
by_place p s x t h = ap (cell_at s t) (sym (place_of p x)) ∙ sym (column_cell p s (disk_at p x) (row_at p x) t (mod-lt x h))

-- the column that stands there already
pub column_same : (p s c : ℕ) (t : List ℕ) → with_column p s c (column_of p s c t) t ≡ t
column_same p s c t = with_same (p * s) c t

module _ (p s c : ℕ) (col t : List ℕ) (long : length col ≡ p * s) (fits : c * (p * s) + p * s ≤ length t) where
  pub length_column : length (with_column p s c col t) ≡ length t
  length_column = length_with (p * s) c col t long fits

  pub column_with : column_of p s c (with_column p s c col t) ≡ col
  column_with = cell_with (p * s) c col t long fits

  -- cells of disk c are the column's, the others are as they were
  pub cell_on : (x : ℕ) → 0 < p → disk_at p x ≡ c → cell_at s (with_column p s c col t) x ≡ cell_at s col (row_at p x)
  cell_on x h e =
      by_place p s x (with_column p s c col t) h
      ∙ ap (λ (d : ℕ). cell_at s (column_of p s d (with_column p s c col t)) (row_at p x)) e
      ∙ ap (λ (u : List ℕ). cell_at s u (row_at p x)) column_with

  pub cell_off : (x : ℕ) → 0 < p → (disk_at p x ≡ c → ⊥) → cell_at s (with_column p s c col t) x ≡ cell_at s t x
  cell_off x h n =
      by_place p s x (with_column p s c col t) h
      ∙ ap (λ (u : List ℕ). cell_at s u (row_at p x)) (cell_other (p * s) c col t long fits (disk_at p x) n)
      ∙ sym (by_place p s x t h)

  -- a cell put into the column is put into the stripe
  pub column_put : (r : ℕ) (new : List ℕ) → r < p → with_column p s c (with_cell s r new col) t ≡ with_cell s (place p r c) new (with_column p s c col t)
  column_put r new h =
      ap (λ (l : List ℕ). front ++ l) (append_assoc (take (r * s) col) (new ++ drop (r * s + s) col) rest ∙ ap (λ (l : List ℕ). take (r * s) col ++ l) (append_assoc new (drop (r * s + s) col) rest))
      ∙ sym (append_assoc front (take (r * s) col) (new ++ (drop (r * s + s) col ++ rest)))
      ∙ sym (ap₂ (λ (u v : List ℕ). u ++ (new ++ v)) taken dropped)
    where
      front : List ℕ
      front = take (c * (p * s)) t

      rest : List ℕ
      rest = drop (c * (p * s) + p * s) t

      front_long : length front ≡ c * (p * s)
      front_long = length-take-le (c * (p * s)) t (omega arith)

      taken : take (place p r c * s) (front ++ (col ++ rest)) ≡ front ++ take (r * s) col
      taken =
          let e : place p r c * s ≡ length front + r * s = omega (arith, front_long) in
          ap (λ (n : ℕ). take n (front ++ (col ++ rest))) e
          ∙ take-append-add front (col ++ rest) (r * s)
          ∙ ap (λ (l : List ℕ). front ++ l) (take-append-le (r * s) col rest (omega (arith, cell_fits p s r h)))

      dropped : drop (place p r c * s + s) (front ++ (col ++ rest)) ≡ drop (r * s + s) col ++ rest
      dropped =
          let e : place p r c * s + s ≡ length front + (r * s + s) = omega (arith, front_long) in
          ap (λ (n : ℕ). drop n (front ++ (col ++ rest))) e
          ∙ drop-append-add front (col ++ rest) (r * s + s)
          ∙ drop-append-le (r * s + s) col rest (omega (arith, cell_fits p s r h))
