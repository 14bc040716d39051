-- The film of a unit in its order: how long it is, and where in the unit each of its cells, parts
-- and bytes lies.
use mathlib.Core.Path.{◌≡◌, sym, ap, ◌∙◌}
use mathlib.Core.List.{List}
use mathlib.Core.Logic.{⊎_elim}
use Prim.Native.Nat.{ℕ, ◌+◌, ◌*◌, ◌/◌, ◌%◌, ◌≤◌, ◌<◌}
use native.Mathlib.Nat.{div-add-mod', mod-lt, mul-le-mul_right}
use native.Mathlib.Omega.{arith}
use lib.ListN.{length, get_or, take, drop, length-drop}
use lib.Seq.{drop-drop, get_or-take, get_or-drop, length-take-le}
use Rattle.mathematics.proofs.ListLaws.{part_front}
use Rattle.mathematics.proofs.OrderLaws.{lt_or_le}
use Rattle.liberation.specs.Sets.{place}
use Rattle.liberation.specs.Stripes.Stripes.{cell_at}
use Rattle.liberation.proofs.Stripes.StripeCellLaws.{cell_fits, column_cell}
use Rattle.unit_film.specs.FilmOrder.{joined_from, stripe_cell, in_order}
use Rattle.unit_film.proofs.JoinLaws.{joined_long, joined_cell}

-- a cell that begins within the film is one of its stripes
pub stripe_below : (q s n x j a m : ℕ) → place q x j * s + a ≡ m → m < q * (n * s) → j < n
stripe_below q s n x j a m e h = ⊎_elim (λ l. l) (λ l. absurd (omega (arith, mul-le-mul_right (q * s) l))) (lt_or_le j n)

module _ (q s n : ℕ) (t : List ℕ) (long : q * (n * s) ≤ length t) where
  -- a cell lies within the unit
  pub cell_within : (x j : ℕ) → x < q → j < n → x * (n * s) + j * s + s ≤ length t
  cell_within x j hx hj = omega (arith, cell_fits q (n * s) x hx, cell_fits n s j hj)

  cell_size_lem : (j : ℕ) → j < n → (x : ℕ) → x < 0 + q → length (stripe_cell s n t j x) ≡ s
  cell_size_lem j hj x hx =
      length-take-le s (drop (x * (n * s) + j * s) t) (omega (arith, length-drop (x * (n * s) + j * s) t, cell_within x j (omega arith) hj))

  abbrev stripe : ℕ → List ℕ
  stripe j = joined_from q 0 (λ x. stripe_cell s n t j x)

  stripe_long_lem : (j : ℕ) → j < 0 + n → length (stripe j) ≡ q * s
  stripe_long_lem j hj = joined_long s (λ x. stripe_cell s n t j x) q 0 (cell_size_lem j (omega arith))

  pub film_long : length (in_order q s n t) ≡ n * (q * s)
  unfolding in_order
  film_long = joined_long (q * s) stripe n 0 stripe_long_lem

  pub film_cell_lem : (x j : ℕ) → x < q → j < n → cell_at s (in_order q s n t) (place q x j) ≡ stripe_cell s n t j x
  unfolding in_order
  film_cell_lem x j hx hj =
      let y : 0 + j ≡ j = omega arith in
      let z : 0 + x ≡ x = omega arith in
      sym (column_cell q s j x (joined_from n 0 stripe) hx)
      ∙ ap (λ (l : List ℕ). cell_at s l x) (joined_cell (q * s) stripe n 0 stripe_long_lem j hj ∙ ap stripe y)
      ∙ joined_cell s (λ v. stripe_cell s n t j v) q 0 (cell_size_lem j hj) x hx
      ∙ ap (λ (v : ℕ). stripe_cell s n t j v) z

  -- a part of a cell
  pub film_part : (x j : ℕ) → x < q → j < n → (a b : ℕ) → a + b ≤ s → take b (drop (place q x j * s + a) (in_order q s n t)) ≡ take b (drop (x * (n * s) + j * s + a) t)
  film_part x j hx hj a b h =
      ap (take b) (sym (drop-drop a (place q x j * s) (in_order q s n t)))
      ∙ sym (part_front a b s (drop (place q x j * s) (in_order q s n t)) h)
      ∙ ap (λ (l : List ℕ). take b (drop a l)) (film_cell_lem x j hx hj)
      ∙ part_front a b s (drop (x * (n * s) + j * s) t) h
      ∙ ap (take b) (drop-drop a (x * (n * s) + j * s) t)

  -- a byte of a cell
  pub film_byte_lem : (x j : ℕ) → x < q → j < n → (a : ℕ) → a < s → get_or (in_order q s n t) (place q x j * s + a) 0 ≡ get_or t (x * (n * s) + j * s + a) 0
  film_byte_lem x j hx hj a h =
      sym (at (in_order q s n t) (place q x j * s)) ∙ ap (λ (l : List ℕ). get_or l a 0) (film_cell_lem x j hx hj) ∙ at t (x * (n * s) + j * s)
    where
      at : (v : List ℕ) (b : ℕ) → get_or (take s (drop b v)) a 0 ≡ get_or v (b + a) 0
      at v b = get_or-take s (drop b v) a 0 h ∙ get_or-drop b v a 0

  -- byte y of the film: where it lies in the unit, and in its piece
  module _ (hq : 0 < q) (hs : 0 < s) (y : ℕ) (h : y < q * (n * s)) where
    by_cell : place q (y / s % q) (y / s / q) * s + y % s ≡ y
    by_cell = omega (arith, ap (λ (z : ℕ). z * s) (div-add-mod' (y / s) q), div-add-mod' y s)

    stripe_of : y / s / q < n
    stripe_of = stripe_below q s n (y / s % q) (y / s / q) (y % s) y by_cell h

    pub film_spot : get_or (in_order q s n t) y 0 ≡ get_or t (y / s % q * (n * s) + (y / s / q * s + y % s)) 0
    film_spot =
        let g : y / s % q * (n * s) + y / s / q * s + y % s ≡ y / s % q * (n * s) + (y / s / q * s + y % s) = omega arith in
        ap (λ (z : ℕ). get_or (in_order q s n t) z 0) (sym by_cell)
        ∙ film_byte_lem (y / s % q) (y / s / q) (mod-lt (y / s) hq) stripe_of (y % s) (mod-lt y hs)
        ∙ ap (λ (z : ℕ). get_or t z 0) g

    pub film_at_lem : get_or (in_order q s n t) y 0 ≡ get_or (cell_at (n * s) t (y / s % q)) (y / s / q * s + y % s) 0
    film_at_lem =
        let w : y / s / q * s + y % s < n * s = omega (arith, cell_fits n s (y / s / q) stripe_of, mod-lt y hs) in
        film_spot
        ∙ sym (get_or-take (n * s) (drop (y / s % q * (n * s)) t) (y / s / q * s + y % s) 0 w ∙ get_or-drop (y / s % q * (n * s)) t (y / s / q * s + y % s) 0)
