-- Bytes added to several cells: each cell of a distinct list gets them once, the others stand.
-- Added to two cells of a list, they leave the list's XOR as it was.
use mathlib.Core.Path.{◌≡◌, refl, sym, ap, ap₂, ◌∙◌}
use mathlib.Core.Bool.{Bool, true, false, ◌||◌, not}
use mathlib.Core.List.{List, [], ◌∷◌}
use Prim.Native.Nat.{ℕ, ◌+◌, ◌*◌, ◌≤◌, ◌<◌}
use native.Mathlib.Omega.{arith}
use lib.Dec.{eqb, ltb}
use lib.ListN.{length}
use borrow.Author.Tests.{eqb-true, eq-eqb, eqb-false, ne_eqb, ltb-true, not-true}
use Rattle.mathematics.specs.Choice.{pick}
use Rattle.mathematics.specs.Lists.{is_in, distinct, all_below}
use Rattle.mathematics.specs.Xor.{xor_l, all_bytes}
use Rattle.mathematics.proofs.Flags.{and_l, and_r}
use Rattle.mathematics.proofs.XorLaws.{xor_l_assoc, xor_l_comm, xor_l_twice, xor_l_long, xor_l_bytes}
use Rattle.liberation.specs.Stripes.Stripes.{cell_at, with_cell, xor_over, without}
use Rattle.liberation.proofs.Stripes.StripeCellLaws.{cell_fits, cell_long, length_with, cell_with, cell_other}
use Rattle.liberation.proofs.Stripes.OverLaws.{Long, over_long, over_bytes, over_ext, in_without, over_without}
use Rattle.liberation.proofs.Stripes.Solving.{bytes_with}
use Rattle.liberation.specs.Update.Updates.{added_each}

-- d of s bytes, a list of n cells
module _ (n s : ℕ) (d : List ℕ) (dl : length d ≡ s) where
  -- one cell
  module _ (y : ℕ) (t : List ℕ) (long : length t ≡ n * s) (low : y < n) where
    one_fits : y * s + s ≤ length t
    one_fits = omega (arith, cell_fits n s y low)

    one_long : length (xor_l (cell_at s t y) d) ≡ s
    one_long = xor_l_long s (cell_at s t y) d (cell_long s y t one_fits) dl

    one_kept : length (with_cell s y (xor_l (cell_at s t y) d) t) ≡ n * s
    one_kept = length_with s y (xor_l (cell_at s t y) d) t one_long one_fits ∙ long

  pub added_long : (ys t : List ℕ) → length t ≡ n * s → all_below n ys ≡ true → length (added_each s d ys t) ≡ n * s
  unfolding added_each
  added_long [] t long low = long
  added_long (y ∷ ys) t long low = added_long ys (with_cell s y (xor_l (cell_at s t y) d) t) (one_kept y t long (ltb-true y n (and_l (ltb y n) (all_below n ys) low))) (and_r (ltb y n) (all_below n ys) low)

  pub added_bytes : (ys t : List ℕ) → all_bytes t ≡ true → all_bytes (added_each s d ys t) ≡ true
  unfolding added_each
  added_bytes [] t h = h
  added_bytes (y ∷ ys) t h = added_bytes ys (with_cell s y (xor_l (cell_at s t y) d) t) (bytes_with s y (xor_l (cell_at s t y) d) t (xor_l_bytes (cell_at s t y) d) h)

  -- the cells of a list that names none twice
  pub added_cell : (ys t : List ℕ) → length t ≡ n * s → all_below n ys ≡ true → distinct ys ≡ true → (x : ℕ) → cell_at s (added_each s d ys t) x ≡ pick (is_in x ys) (xor_l (cell_at s t x) d) (cell_at s t x)
  unfolding added_each
  added_cell [] t long low once x = refl
  added_cell (y ∷ ys) t long low once x = added_cell ys u (one_kept y t long yl) (and_r (ltb y n) (all_below n ys) low) (and_r (not (is_in y ys)) (distinct ys) once) x ∙ go (eqb x y) refl
    where
      yl : y < n
      yl = ltb-true y n (and_l (ltb y n) (all_below n ys) low)

      new : List ℕ
      new = xor_l (cell_at s t y) d

      u : List ℕ
      u = with_cell s y new t

      go : (b : Bool) → eqb x y ≡ b → pick (is_in x ys) (xor_l (cell_at s u x) d) (cell_at s u x) ≡ pick (b || is_in x ys) (xor_l (cell_at s t x) d) (cell_at s t x)
      go true e =
          let q : x ≡ y = eqb-true x y e in
          ap (λ (b : Bool). pick b (xor_l (cell_at s u x) d) (cell_at s u x)) (ap (λ (z : ℕ). is_in z ys) q ∙ not-true (is_in y ys) (and_l _ _ once))
          ∙ ap (cell_at s u) q
          ∙ cell_with s y new t (one_long y t long yl) (one_fits y t long yl)
          ∙ ap (λ (z : ℕ). xor_l (cell_at s t z) d) (sym q)
      go false e = ap (λ (c : List ℕ). pick (is_in x ys) (xor_l c d) c) (cell_other s y new t (one_long y t long yl) (one_fits y t long yl) x (eqb-false x y e))

-- d added to one cell of a list of cells is added to its XOR
pub over_one : (s : ℕ) (g h : ℕ → List ℕ) (d : List ℕ) (a : ℕ) (xs : List ℕ) → distinct xs ≡ true → is_in a xs ≡ true → h a ≡ xor_l (g a) d → ((y : ℕ) → is_in y xs ≡ true → (y ≡ a → ⊥) → h y ≡ g y) → xor_over s h xs ≡ xor_l d (xor_over s g xs)
over_one s g h d a xs once held here rest =
    over_without s h a xs once held
    ∙ ap₂ xor_l (here ∙ xor_l_comm (g a) d) (over_ext s h g (without a xs) (λ y m. rest y (and_l _ _ (sym (in_without a y xs) ∙ m)) (apart y m)))
    ∙ xor_l_assoc d (g a) (xor_over s g (without a xs))
    ∙ ap (xor_l d) (sym (over_without s g a xs once held))
  where
    apart : (y : ℕ) → is_in y (without a xs) ≡ true → y ≡ a → ⊥
    apart y m = eqb-false y a (not-true (eqb y a) (and_r (is_in y xs) (not (eqb y a)) (sym (in_without a y xs) ∙ m)))

-- added to two it cancels
pub over_two : (s : ℕ) (g h : ℕ → List ℕ) (d : List ℕ) (a b : ℕ) (xs : List ℕ) → length d ≡ s → Long s g xs → distinct xs ≡ true → is_in a xs ≡ true → is_in b xs ≡ true → (b ≡ a → ⊥) → h a ≡ xor_l (g a) d → h b ≡ xor_l (g b) d → ((y : ℕ) → is_in y xs ≡ true → (y ≡ a → ⊥) → (y ≡ b → ⊥) → h y ≡ g y) → xor_over s h xs ≡ xor_over s g xs
over_two s g h d a b xs dl long once ha hb apart at_a at_b rest =
    over_one s half h d b xs once hb (at_b ∙ ap (λ (c : List ℕ). xor_l c d) (sym (half_off b apart))) half_rest
    ∙ ap (xor_l d) (over_one s g half d a xs once ha (half_at ∙ at_a) (λ y m n. half_off y n))
    ∙ xor_l_twice s d (xor_over s g xs) dl (over_long s g xs long) (over_bytes s g xs)
  where
    -- added to a only
    half : ℕ → List ℕ
    half y = pick (eqb y a) (h y) (g y)

    half_at : half a ≡ h a
    half_at = ap (λ (t : Bool). pick t (h a) (g a)) (eq-eqb a a refl)

    half_off : (y : ℕ) → (y ≡ a → ⊥) → half y ≡ g y
    half_off y n = ap (λ (t : Bool). pick t (h y) (g y)) (ne_eqb y a n)

    half_rest : (y : ℕ) → is_in y xs ≡ true → (y ≡ b → ⊥) → h y ≡ half y
    half_rest y m n = go (eqb y a) refl
      where
        go : (t : Bool) → eqb y a ≡ t → h y ≡ pick t (h y) (g y)
        go true e = refl
        go false e = rest y m (eqb-false y a e) n
