-- An update, cell by cell: the cell gets its new bytes, each of its parity cells the change, and
-- all others stand. Every set keeps its XOR, in clean stripes and in dirty ones:
-- a set that holds the cell holds one of its parity cells too, and equal changes cancel. So a clean
-- stripe stays clean, and is what encoding the new data gives.
use mathlib.Core.Path.{◌≡◌, refl, sym, ap, ap₂, ◌∙◌}
use mathlib.Core.Bool.{Bool, true, false}
use mathlib.Core.Logic.{⊎_elim}
use mathlib.Core.List.{List}
use Prim.Native.Nat.{ℕ, suc, ◌+◌, ◌*◌, ◌/◌, ◌%◌, ◌≤◌, ◌<◌}
use native.Mathlib.Nat.{mod-lt, div-add-mod'}
use native.Mathlib.Omega.{arith}
use lib.Dec.{eqb}
use lib.ListN.{length, get_or}
use lib.Seq.{get_or-take, get_or-drop}
use borrow.Author.Tests.{eqb-true, eq-eqb, eqb-false, ne_eqb, le-leb}
use Rattle.mathematics.specs.Choice.{pick}
use Rattle.mathematics.specs.Lists.{is_in, distinct, all_below}
use Rattle.mathematics.specs.Xor.{xor_l, all_bytes}
use Rattle.mathematics.proofs.Flags.{flag, and_i, clash, same_flag}
use Rattle.mathematics.proofs.XorLaws.{xor_l_twice, xor_l_long}
use Rattle.mathematics.proofs.OrderLaws.{eq_or_ne}
use Rattle.liberation.specs.Sets.{place, row_set, diagonal_set, set_of}
use Rattle.liberation.proofs.SetLaws.{in_row, in_diagonal_parity, place_below, set_below}
use Rattle.liberation.proofs.DistinctLaws.{distinct_set}
use Rattle.liberation.specs.Stripes.Stripes.{cell_at, with_cell, xor_over, is_stripe, clean, encoded}
use Rattle.liberation.proofs.Stripes.StripeCellLaws.{cell_fits, cell_long, length_with, cell_with, cell_other, cells_equal}
use Rattle.liberation.proofs.Stripes.OverLaws.{over_ext}
use Rattle.liberation.proofs.Stripes.Solving.{cells_long, bytes_with, stripe_long_lem, stripe_bytes, stripe_of, SetZero, clean_at, clean_of}
use Rattle.liberation.proofs.Stripes.Encoding.{encoded_only}
use Rattle.liberation.specs.Update.Updates.{parity_of, added_each, change, updated}
use Rattle.liberation.proofs.Update.ParityCells.{parity_data, parity_below, parity_distinct, row_parity_held, diagonal_parity_held, row_parity_only, diagonal_parity_only}
use Rattle.liberation.proofs.Update.AddingLaws.{added_long, added_bytes, added_cell, over_two}

-- what a cell becomes: new bytes where it is the cell itself, the change added where it is a parity
-- cell
abbrev pub became : Bool → Bool → List ℕ → List ℕ → List ℕ → List ℕ
became here held new d old = pick here new (pick held (xor_l old d) old)

-- what the update of (r, c) in t makes of the bytes o of cell y
abbrev pub made : ℕ → ℕ → ℕ → ℕ → ℕ → List ℕ → List ℕ → ℕ → List ℕ → List ℕ
made p k s r c new t y o = became (eqb y (place p r c)) (is_in y (parity_of p k r c)) new (change s (place p r c) new t) o

-- a byte of a list by its cell
cell_byte : (s j : ℕ) (t : List ℕ) → 0 < s → get_or t j 0 ≡ get_or (cell_at s t (j / s)) (j % s) 0
cell_byte s j t h =
    let m : j % s < s = mod-lt j h in
    let e : j / s * s + j % s ≡ j = div-add-mod' j s in
    sym (rw (get_or-take, get_or-drop) (ap (λ (i : ℕ). get_or t i 0) e))

-- each set has its own parity cell
row_own : (p k i : ℕ) → i < p → is_in (place p i k) (row_set p k i) ≡ true
row_own p k i m = in_row p k i i k m m ∙ and_i _ _ (eq-eqb i i refl) (le-leb k k (omega arith))

diagonal_own : (p k i : ℕ) → i < p → is_in (place p i (suc k)) (diagonal_set p k i) ≡ true
diagonal_own p k i m = in_diagonal_parity p k i i (suc k) m m (omega arith) ∙ and_i _ _ (eq-eqb (suc k) (suc k) refl) (eq-eqb i i refl)

-- a data cell (r, c) of a stripe, and new bytes for it
module _ (p k s r c : ℕ) (odd : p % 2 ≡ 1) (h : r < p) (l : c < k) (new : List ℕ) (nl : length new ≡ s) (t : List ℕ) (stripe : is_stripe p k s t ≡ true) where
  long : length t ≡ p * (k + 2) * s
  long = stripe_long_lem p k s t stripe

  low : place p r c < p * (k + 2)
  low = place_below p (k + 2) r c h (omega arith)

  fits : (u : List ℕ) → length u ≡ p * (k + 2) * s → place p r c * s + s ≤ length u
  fits u e = omega (arith, cell_fits (p * (k + 2)) s (place p r c) low)

  pub old_long : length (cell_at s t (place p r c)) ≡ s
  old_long = cell_long s (place p r c) t (fits t long)

  pub change_long : length (change s (place p r c) new t) ≡ s
  change_long = xor_l_long s (cell_at s t (place p r c)) new old_long nl

  -- the stripe once the parity cells are changed
  abbrev begun : List ℕ
  begun = added_each s (change s (place p r c) new t) (parity_of p k r c) t

  begun_long : length begun ≡ p * (k + 2) * s
  begun_long = added_long (p * (k + 2)) s (change s (place p r c) new t) change_long (parity_of p k r c) t long (parity_below p k r c h)

  pub updated_long : length (updated p k s r c new t) ≡ p * (k + 2) * s
  unfolding updated
  updated_long = length_with s (place p r c) new begun nl (fits begun begun_long) ∙ begun_long

  pub updated_stripe : all_bytes new ≡ true → is_stripe p k s (updated p k s r c new t) ≡ true
  unfolding updated
  updated_stripe nb =
      stripe_of p k s (updated p k s r c new t) updated_long
      (bytes_with s (place p r c) new begun nb (added_bytes (p * (k + 2)) s (change s (place p r c) new t) change_long (parity_of p k r c) t (stripe_bytes p k s t stripe)))

  -- every cell
  pub updated_at : (y : ℕ) → cell_at s (updated p k s r c new t) y ≡ made p k s r c new t y (cell_at s t y)
  unfolding updated
  updated_at y = go (eqb y (place p r c)) refl
    where
      go : (b : Bool) → eqb y (place p r c) ≡ b → cell_at s (with_cell s (place p r c) new begun) y ≡ became b (is_in y (parity_of p k r c)) new (change s (place p r c) new t) (cell_at s t y)
      go true e = ap (cell_at s (with_cell s (place p r c) new begun)) (eqb-true y (place p r c) e) ∙ cell_with s (place p r c) new begun nl (fits begun begun_long)
      go false e =
          cell_other s (place p r c) new begun nl (fits begun begun_long) y (eqb-false y (place p r c) e)
          ∙ added_cell (p * (k + 2)) s (change s (place p r c) new t) change_long (parity_of p k r c) t long (parity_below p k r c h) (parity_distinct p k r c h odd) y

  -- the cell itself, its parity cells, the others
  pub updated_new : cell_at s (updated p k s r c new t) (place p r c) ≡ new
  updated_new = updated_at (place p r c) ∙ ap (λ (b : Bool). became b (is_in (place p r c) (parity_of p k r c)) new (change s (place p r c) new t) (cell_at s t (place p r c))) (eq-eqb (place p r c) (place p r c) refl)

  pub itself_data : is_in (place p r c) (parity_of p k r c) ≡ false
  itself_data = parity_data p k r c h (place p r c) (place_below p k r c h l)

  pub updated_parity : (y : ℕ) → is_in y (parity_of p k r c) ≡ true → cell_at s (updated p k s r c new t) y ≡ xor_l (cell_at s t y) (change s (place p r c) new t)
  updated_parity y q =
      updated_at y
      ∙ ap₂ (λ (a b : Bool). became a b new (change s (place p r c) new t) (cell_at s t y))
      (ne_eqb y (place p r c) (λ e. clash (is_in y (parity_of p k r c)) q (ap (λ (z : ℕ). is_in z (parity_of p k r c)) e ∙ itself_data)))
      q

  pub updated_other : (y : ℕ) → (y ≡ place p r c → ⊥) → is_in y (parity_of p k r c) ≡ false → cell_at s (updated p k s r c new t) y ≡ cell_at s t y
  updated_other y n q = updated_at y ∙ ap₂ (λ (a b : Bool). became a b new (change s (place p r c) new t) (cell_at s t y)) (ne_eqb y (place p r c) n) q

  -- so every byte of the others stands
  pub updated_byte : (j : ℕ) → 0 < s → (j / s ≡ place p r c → ⊥) → is_in (j / s) (parity_of p k r c) ≡ false → get_or (updated p k s r c new t) j 0 ≡ get_or t j 0
  updated_byte j w n q = cell_byte s j (updated p k s r c new t) w ∙ ap (λ (o : List ℕ). get_or o (j % s) 0) (updated_other (j / s) n q) ∙ sym (cell_byte s j t w)

  -- and so do other data cells
  pub updated_data : (y : ℕ) → y < p * k → (y ≡ place p r c → ⊥) → cell_at s (updated p k s r c new t) y ≡ cell_at s t y
  updated_data y m n = updated_other y n (parity_data p k r c h y m)

  -- a list with these cells is the updated stripe
  pub updated_only : (u : List ℕ) → length u ≡ p * (k + 2) * s → ((y : ℕ) → y < p * (k + 2) → cell_at s u y ≡ made p k s r c new t y (cell_at s t y)) → u ≡ updated p k s r c new t
  updated_only u ul same = cells_equal (p * (k + 2)) s u (updated p k s r c new t) ul updated_long (λ y m. same y m ∙ sym (updated_at y))

  -- the XOR over a list of cells that has the data cell exactly if it has the parity cell q, and no
  -- other of its parity cells
  module _ (nb : all_bytes new ≡ true) (q : ℕ) (xs : List ℕ) (once : distinct xs ≡ true) (within : all_below (p * (k + 2)) xs ≡ true) (mine : is_in q xs ≡ true) (held : is_in q (parity_of p k r c) ≡ is_in (place p r c) xs) (only : (y : ℕ) → is_in y xs ≡ true → (y ≡ q → ⊥) → is_in y (parity_of p k r c) ≡ false) where
    -- the new bytes are the old ones and the change
    new_is : cell_at s (updated p k s r c new t) (place p r c) ≡ xor_l (cell_at s t (place p r c)) (change s (place p r c) new t)
    new_is = updated_new ∙ sym (xor_l_twice s (cell_at s t (place p r c)) new old_long nl nb)

    over_kept : xor_over s (cell_at s (updated p k s r c new t)) xs ≡ xor_over s (cell_at s t) xs
    over_kept = ⊎_elim both neither (flag (is_in (place p r c) xs))
      where
        both : is_in (place p r c) xs ≡ true → xor_over s (cell_at s (updated p k s r c new t)) xs ≡ xor_over s (cell_at s t) xs
        both b =
            over_two s (cell_at s t) (cell_at s (updated p k s r c new t)) (change s (place p r c) new t) (place p r c) q xs change_long
            (cells_long (p * (k + 2)) s xs t long within)
            once
            b
            mine
            (λ e. clash (is_in q (parity_of p k r c)) (held ∙ b) (ap (λ (z : ℕ). is_in z (parity_of p k r c)) e ∙ itself_data))
            new_is
            (updated_parity q (held ∙ b))
            (λ y m n o. updated_other y n (only y m o))

        none : is_in (place p r c) xs ≡ false → (y : ℕ) → is_in y xs ≡ true → is_in y (parity_of p k r c) ≡ false
        none b y m = ⊎_elim (λ e. ap (λ (z : ℕ). is_in z (parity_of p k r c)) e ∙ held ∙ b) (only y m) (eq_or_ne y q)

        neither : is_in (place p r c) xs ≡ false → xor_over s (cell_at s (updated p k s r c new t)) xs ≡ xor_over s (cell_at s t) xs
        neither b =
            over_ext s (cell_at s (updated p k s r c new t)) (cell_at s t) xs (λ y m. updated_other y (λ e. clash (is_in y xs) m (ap (λ (z : ℕ). is_in z xs) e ∙ b)) (none b y m))

  -- every set keeps its XOR
  module _ (most : k ≤ p) (nb : all_bytes new ≡ true) where
    pub updated_set : (kind i : ℕ) → i < p → xor_over s (cell_at s (updated p k s r c new t)) (set_of p k kind i) ≡ xor_over s (cell_at s t) (set_of p k kind i)
    updated_set kind i m = go (eqb kind 0)
      where
        go : (b : Bool) → xor_over s (cell_at s (updated p k s r c new t)) (pick b (row_set p k i) (diagonal_set p k i)) ≡ xor_over s (cell_at s t) (pick b (row_set p k i) (diagonal_set p k i))
        go true =
            over_kept nb (place p i k) (row_set p k i)
            (distinct_set p k 0 i m)
            (set_below p k 0 i m)
            (row_own p k i m)
            (row_parity_held p k r c h most l i m)
            (row_parity_only p k r c h most l i m)
        go false =
            over_kept nb (place p i (suc k)) (diagonal_set p k i)
            (distinct_set p k 1 i m)
            (set_below p k 1 i m)
            (diagonal_own p k i m)
            (diagonal_parity_held p k r c h most l i m)
            (diagonal_parity_only p k r c h most l i m)

    -- so it is clean exactly if the stripe was
    pub updated_clean : clean p k s (updated p k s r c new t) ≡ clean p k s t
    updated_clean =
        same_flag (clean p k s (updated p k s r c new t)) (clean p k s t)
        (λ e. clean_of p k s t (λ i m. before e 0 i m) (λ i m. before e 1 i m))
        (λ e. clean_of p k s (updated p k s r c new t) (λ i m. after e 0 i m) (λ i m. after e 1 i m))
      where
        before : clean p k s (updated p k s r c new t) ≡ true → (kind i : ℕ) → i < p → SetZero p k s t kind i
        before e kind i m = sym (updated_set kind i m) ∙ clean_at p k s (updated p k s r c new t) e kind i m

        after : clean p k s t ≡ true → (kind i : ℕ) → i < p → SetZero p k s (updated p k s r c new t) kind i
        after e kind i m = updated_set kind i m ∙ clean_at p k s t e kind i m

    -- and a clean stripe becomes what encoding the new data gives
    pub updated_encoded : clean p k s t ≡ true → updated p k s r c new t ≡ encoded p k s (with_cell s (place p r c) new t)
    updated_encoded e =
        encoded_only p k s put put_stripe (updated p k s r c new t) (updated_stripe nb) (updated_clean ∙ e)
        (λ y m. ⊎_elim (here y) (there y m) (eq_or_ne y (place p r c)))
      where
        put : List ℕ
        put = with_cell s (place p r c) new t

        put_stripe : is_stripe p k s put ≡ true
        put_stripe = stripe_of p k s put (length_with s (place p r c) new t nl (fits t long) ∙ long) (bytes_with s (place p r c) new t nb (stripe_bytes p k s t stripe))

        here : (y : ℕ) → y ≡ place p r c → cell_at s (updated p k s r c new t) y ≡ cell_at s put y
        here y q = ap (cell_at s (updated p k s r c new t)) q ∙ updated_new ∙ sym (ap (cell_at s put) q ∙ cell_with s (place p r c) new t nl (fits t long))

        there : (y : ℕ) → y < p * k → (y ≡ place p r c → ⊥) → cell_at s (updated p k s r c new t) y ≡ cell_at s put y
        there y m n = updated_data y m n ∙ sym (cell_other s (place p r c) new t nl (fits t long) y n)
