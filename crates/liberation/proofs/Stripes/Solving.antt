-- A step: the cell that it writes makes its set's XOR zero, and nothing else changes. Where the XOR
-- was zero before, the step changes nothing.
-- The cell and the XOR of the others together are zero exactly if they are equal. Also: a stripe is
-- clean exactly if the XOR over every set is zero.
use mathlib.Core.Path.{◌≡◌, sym, ap, ap₂, ◌∙◌}
use mathlib.Core.Bool.{Bool, true, false, not}
use mathlib.Core.Logic.{⊎_elim}
use mathlib.Core.List.{List, ◌++◌}
use Prim.Native.Nat.{ℕ, ◌+◌, ◌*◌, ◌≤◌, ◌<◌}
use native.Mathlib.Nat.{mod-lt}
use native.Mathlib.Omega.{arith}
use lib.Dec.{eqb}
use lib.ListN.{length, take, drop, replicate}
use borrow.Author.Tests.{eqb-true, eq-eqb, eqb-false, not-true}
use Rattle.mathematics.specs.Choice.{pick}
use Rattle.mathematics.specs.Lists.{is_in, distinct, all_below, same}
use Rattle.mathematics.specs.Sums.{all_to}
use Rattle.mathematics.specs.Xor.{xor_l, all_bytes}
use Rattle.mathematics.proofs.Flags.{and_l, and_r, and_i}
use Rattle.mathematics.proofs.OrderLaws.{eq_or_ne}
use Rattle.mathematics.proofs.AllLaws.{all_at, all_of_lem}
use Rattle.mathematics.proofs.ByteLaws.{bytes_append, bytes_take, bytes_drop}
use Rattle.mathematics.proofs.MemberLaws.{in_below, same_true, same_self}
use Rattle.mathematics.proofs.XorLaws.{xor_l_self, zero_equal}
use Rattle.liberation.specs.Sets.{place, row_at, disk_at, row_set, diagonal_set, set_of}
use Rattle.liberation.proofs.SetLaws.{place_of}
use Rattle.liberation.proofs.PlaceLaws.{some_row}
use Rattle.liberation.specs.Stripes.Stripes.{cell_at, with_cell, xor_over, stripe_long, is_stripe, set_clean, clean, without, solved}
use Rattle.liberation.proofs.Stripes.StripeCellLaws.{cell_fits, cell_long, with_same, length_with, cell_with, cell_other, cells_equal}
use Rattle.liberation.proofs.Stripes.OverLaws.{Long, over_long, over_bytes, over_ext, in_without, over_without}

-- the cells of a list of n cells
pub cells_long : (n s : ℕ) (xs t : List ℕ) → length t ≡ n * s → all_below n xs ≡ true → Long s (cell_at s t) xs
cells_long n s xs t long within x h = cell_long s x t (omega (arith, cell_fits n s x (in_below n x xs within h)))

pub bytes_with : (s x : ℕ) (new t : List ℕ) → all_bytes new ≡ true → all_bytes t ≡ true → all_bytes (with_cell s x new t) ≡ true
bytes_with s x new t h k =
    bytes_append (take (x * s) t) (new ++ drop (x * s + s) t) (bytes_take (x * s) t k) (bytes_append new (drop (x * s + s) t) h (bytes_drop (x * s + s) t k))

pub cell_bytes_lem : (s x : ℕ) (t : List ℕ) → all_bytes t ≡ true → all_bytes (cell_at s t x) ≡ true
cell_bytes_lem s x t h = bytes_take s (drop (x * s) t) (bytes_drop (x * s) t h)

-- a set xs of cells of a list t of n cells, and one of them, x
module _ (n s x : ℕ) (xs t : List ℕ) (long : length t ≡ n * s) (within : all_below n xs ≡ true) (held : is_in x xs ≡ true) where
  -- the XOR of the others
  others : List ℕ
  others = xor_over s (cell_at s t) (without x xs)

  kept : (y : ℕ) → is_in y (without x xs) ≡ true → is_in y xs ≡ true
  kept y h = and_l _ _ (sym (in_without x y xs) ∙ h)

  others_long : length others ≡ s
  unfolding others
  others_long = over_long s (cell_at s t) (without x xs) (λ y h. cells_long n s xs t long within y (kept y h))

  fits : x * s + s ≤ length t
  fits = omega (arith, cell_fits n s x (in_below n x xs within held))

  pub solved_long : length (solved s x xs t) ≡ length t
  unfolding others
  solved_long = length_with s x others t others_long fits

  pub solved_bytes : all_bytes t ≡ true → all_bytes (solved s x xs t) ≡ true
  solved_bytes h = bytes_with s x (xor_over s (cell_at s t) (without x xs)) t (over_bytes s (cell_at s t) (without x xs)) h

  pub solved_cell : cell_at s (solved s x xs t) x ≡ xor_over s (cell_at s t) (without x xs)
  unfolding others
  solved_cell = cell_with s x others t others_long fits

  pub solved_other : (y : ℕ) → (y ≡ x → ⊥) → cell_at s (solved s x xs t) y ≡ cell_at s t y
  unfolding others
  solved_other y e = cell_other s x others t others_long fits y e

  -- after the step the set's XOR is zero
  pub solved_zero : distinct xs ≡ true → xor_over s (cell_at s (solved s x xs t)) xs ≡ replicate s 0
  unfolding others
  solved_zero once =
      over_without s (cell_at s (solved s x xs t)) x xs once held
      ∙ ap₂ xor_l solved_cell (over_ext s (cell_at s (solved s x xs t)) (cell_at s t) (without x xs) (λ y h. solved_other y (apart y h)))
      ∙ xor_l_self others
      ∙ ap (λ (m : ℕ). replicate m 0) others_long
    where
      apart : (y : ℕ) → is_in y (without x xs) ≡ true → y ≡ x → ⊥
      apart y h = eqb-false y x (not-true (eqb y x) (and_r (is_in y xs) (not (eqb y x)) (sym (in_without x y xs) ∙ h)))

  -- where it was zero before, the cell is the XOR of the others already
  pub solved_same : distinct xs ≡ true → all_bytes t ≡ true → xor_over s (cell_at s t) xs ≡ replicate s 0 → solved s x xs t ≡ t
  unfolding others
  solved_same once bytes zeros = ap (λ (c : List ℕ). with_cell s x c t) (sym equal) ∙ with_same s x t
    where
      equal : cell_at s t x ≡ others
      equal =
          zero_equal s (cell_at s t x) others (cell_long s x t fits) others_long (cell_bytes_lem s x t bytes) (over_bytes s (cell_at s t) (without x xs))
          (sym (over_without s (cell_at s t) x xs once held) ∙ zeros)

-- a stripe is p (k + 2) cells of s bytes
pub stripe_long_lem : (p k s : ℕ) (t : List ℕ) → is_stripe p k s t ≡ true → length t ≡ p * (k + 2) * s
stripe_long_lem p k s t h = eqb-true (length t) (stripe_long p k s) (and_l _ _ h) ∙ omega arith

pub stripe_bytes : (p k s : ℕ) (t : List ℕ) → is_stripe p k s t ≡ true → all_bytes t ≡ true
stripe_bytes p k s t h = and_r (eqb (length t) (stripe_long p k s)) (all_bytes t) h

pub stripe_of : (p k s : ℕ) (t : List ℕ) → length t ≡ p * (k + 2) * s → all_bytes t ≡ true → is_stripe p k s t ≡ true
stripe_of p k s t e h = and_i _ _ (eq-eqb (length t) (stripe_long p k s) (e ∙ omega arith)) h

-- stripes with equal cells are equal
pub stripes_equal : (p k s : ℕ) (t u : List ℕ) → is_stripe p k s t ≡ true → is_stripe p k s u ≡ true → ((x : ℕ) → x < p * (k + 2) → cell_at s t x ≡ cell_at s u x) → t ≡ u
stripes_equal p k s t u ht hu h = cells_equal (p * (k + 2)) s t u (stripe_long_lem p k s t ht) (stripe_long_lem p k s u hu) h

-- two stripes agree in a cell that is off disk d, or in one of its rows, if they agree there
pub cell_alike :
    (p k s d : ℕ) (t u : List ℕ) (x : ℕ) → x < p * (k + 2)
    → ((disk_at p x ≡ d → ⊥) → cell_at s t x ≡ cell_at s u x) → ((r : ℕ) → r < p → cell_at s t (place p r d) ≡ cell_at s u (place p r d))
    → cell_at s t x ≡ cell_at s u x
cell_alike p k s d t u x l off on = ⊎_elim here off (eq_or_ne (disk_at p x) d)
  where
    here : disk_at p x ≡ d → cell_at s t x ≡ cell_at s u x
    here e =
        let q : x ≡ place p (row_at p x) d = sym (place_of p x) ∙ ap (place p (row_at p x)) e in
        ap (cell_at s t) q ∙ on (row_at p x) (mod-lt x (some_row p (k + 2) x l)) ∙ sym (ap (cell_at s u) q)

-- so they are equal if they agree off disk d and in each of its rows
pub stripes_alike :
    (p k s d : ℕ) (t u : List ℕ) → is_stripe p k s t ≡ true → is_stripe p k s u ≡ true
    → ((x : ℕ) → x < p * (k + 2) → (disk_at p x ≡ d → ⊥) → cell_at s t x ≡ cell_at s u x)
    → ((r : ℕ) → r < p → cell_at s t (place p r d) ≡ cell_at s u (place p r d))
    → t ≡ u
stripes_alike p k s d t u ht hu off on = stripes_equal p k s t u ht hu (λ x l. cell_alike p k s d t u x l (off x l) on)

-- the cells of a set XOR to zero
abbrev pub SetZero : ℕ → ℕ → ℕ → List ℕ → ℕ → ℕ → Type 0
SetZero p k s t kind i = xor_over s (cell_at s t) (set_of p k kind i) ≡ replicate s 0

-- a clean stripe: every set does
pub clean_at : (p k s : ℕ) (t : List ℕ) → clean p k s t ≡ true → (kind i : ℕ) → i < p → SetZero p k s t kind i
unfolding clean
clean_at p k s t h kind i l = go (eqb kind 0)
  where
    rows : Bool
    rows = all_to p (λ j. set_clean p k s t 0 j)

    diagonals : Bool
    diagonals = all_to p (λ j. set_clean p k s t 1 j)

    go : (b : Bool) → xor_over s (cell_at s t) (pick b (row_set p k i) (diagonal_set p k i)) ≡ replicate s 0
    go true = same_true (xor_over s (cell_at s t) (row_set p k i)) (replicate s 0) (all_at p (λ j. set_clean p k s t 0 j) (and_l _ _ h) i l)
    go false = same_true (xor_over s (cell_at s t) (diagonal_set p k i)) (replicate s 0) (all_at p (λ j. set_clean p k s t 1 j) (and_r rows diagonals h) i l)

pub clean_of : (p k s : ℕ) (t : List ℕ) → ((i : ℕ) → i < p → SetZero p k s t 0 i) → ((i : ℕ) → i < p → SetZero p k s t 1 i) → clean p k s t ≡ true
unfolding clean
clean_of p k s t rows diagonals =
    and_i _ _
    (all_of_lem p (λ j. set_clean p k s t 0 j) (λ i l. zero_clean 0 i (rows i l)))
    (all_of_lem p (λ j. set_clean p k s t 1 j) (λ i l. zero_clean 1 i (diagonals i l)))
  where
    zero_clean : (kind i : ℕ) → SetZero p k s t kind i → set_clean p k s t kind i ≡ true
    zero_clean kind i e = ap (λ (c : List ℕ). same c (replicate s 0)) e ∙ same_self (replicate s 0)
