-- Stripes put together as a unit: clean stripes make a clean unit, for XOR works byte by byte; and
-- the film of the unit is what the stripes were cut from.
use mathlib.Core.Path.{◌≡◌, sym, ap, subst, ◌∙◌}
use mathlib.Core.Bool.{true}
use mathlib.Core.List.{List, []}
use Prim.Native.Nat.{ℕ, ◌+◌, ◌*◌, ◌/◌, ◌%◌, ◌<◌}
use native.Mathlib.Nat.{mod-lt, div-add-mod', div-lt_iff_lt-mul}
use native.Mathlib.Omega.{arith}
use lib.ListN.{take, drop, replicate, length-replicate}
use Rattle.mathematics.specs.Lists.{is_in}
use Rattle.mathematics.proofs.MemberLaws.{in_below}
use Rattle.liberation.specs.Sets.{place, set_of}
use Rattle.liberation.specs.Stripes.Stripes.{cell_at, xor_over, clean}
use Rattle.liberation.proofs.SetLaws.{set_below}
use Rattle.liberation.proofs.Stripes.OverLaws.{over_long, over_ext}
use Rattle.liberation.proofs.Stripes.StripeSums.{cell_over}
use Rattle.liberation.proofs.Stripes.StripeCellLaws.{cell_fits, cell_long, cells_equal, column_cell}
use Rattle.liberation.proofs.Stripes.Solving.{SetZero, clean_at, clean_of}
use Rattle.liberation.proofs.TwoDisks.StartLaws.{over_nil}
use Rattle.unit_film.specs.FilmOrder.{stripe_cell, film_of}
use Rattle.unit_film.proofs.OrderLaws.{film_long, film_cell_lem}
use Rattle.guarantees.specs.Units.FilmWay.{Cut, Together}

-- cell j of a piece is the cell of stripe j
pub piece_cell : (s n x j : ℕ) (u : List ℕ) → j < n → cell_at s (cell_at (n * s) u x) j ≡ stripe_cell s n u j x
piece_cell s n x j u l =
    let e : place n j x * s ≡ x * (n * s) + j * s = omega arith in
    column_cell n s x j u l ∙ ap (λ (m : ℕ). take s (drop m u)) e

-- a cell of zeros
zeros_cell : (s n j : ℕ) (g : ℕ → List ℕ) → j < n → cell_at s (replicate (n * s) 0) j ≡ replicate s 0
zeros_cell s n j g l =
    ap (λ (c : List ℕ). cell_at s c j) (sym (over_nil (n * s) g)) ∙ cell_over (n * s) s j g [] (cell_fits n s j l) ∙ over_nil s (λ i. cell_at s (g i) j)

module _ (p k s n : ℕ) (e : ℕ → List ℕ) (u : List ℕ) (all : Together p k s n e u) where
  set_zero : (kind i : ℕ) → i < p → ((j : ℕ) → j < n → SetZero p k s (e j) kind i) → SetZero p k (n * s) u kind i
  set_zero kind i h zero =
      cells_equal n s (xor_over (n * s) (cell_at (n * s) u) (set_of p k kind i)) (replicate (n * s) 0)
      (over_long (n * s) (cell_at (n * s) u) (set_of p k kind i) (λ x q. cell_long (n * s) x u (omega (arith, all.long, cell_fits (p * (k + 2)) (n * s) x (below x q)))))
      (length-replicate {A = ℕ} (n * s) 0)
      (λ j l.
      cell_over (n * s) s j (cell_at (n * s) u) (set_of p k kind i) (cell_fits n s j l)
      ∙ over_ext s (λ x. cell_at s (cell_at (n * s) u x) j) (cell_at s (e j)) (set_of p k kind i) (λ x q. piece_cell s n x j u l ∙ all.cells j x l (below x q))
      ∙ zero j l
      ∙ sym (zeros_cell s n j (cell_at s u) l))
    where
      below : (x : ℕ) → is_in x (set_of p k kind i) ≡ true → x < p * (k + 2)
      below x q = in_below (p * (k + 2)) x (set_of p k kind i) (set_below p k kind i h) q

  pub unit_clean : ((j : ℕ) → j < n → clean p k s (e j) ≡ true) → clean p k (n * s) u ≡ true
  unit_clean c =
      clean_of p k (n * s) u
      (λ i l. set_zero 0 i l (λ j h. clean_at p k s (e j) (c j h) 0 i l))
      (λ i l. set_zero 1 i l (λ j h. clean_at p k s (e j) (c j h) 1 i l))

  -- the film
  module _ (film : List ℕ) (t : ℕ → List ℕ) (cut : Cut p k s n film t) (kept : (j : ℕ) → j < n → (x : ℕ) → x < k * p → cell_at s (e j) x ≡ cell_at s (t j) x) where
    same_cell : (x j : ℕ) → x < k * p → j < n → cell_at s (film_of p k s n u) (place (k * p) x j) ≡ cell_at s film (place (k * p) x j)
    same_cell x j hx hj =
        film_cell_lem (k * p) s n u (omega (arith, all.long)) x j hx hj
        ∙ all.cells j x hj (omega arith)
        ∙ kept j hj x hx
        ∙ cut.cells j x hj hx

    pub film_is : 0 < k * p → film_of p k s n u ≡ film
    film_is some =
        cells_equal (n * (k * p)) s (film_of p k s n u) film (film_long (k * p) s n u (omega (arith, all.long)) ∙ omega arith) (cut.long ∙ omega arith)
        (λ y l.
        let d : y / (k * p) < n = (div-lt_iff_lt-mul some).1 l in
        subst (λ (z : ℕ). cell_at s (film_of p k s n u) z ≡ cell_at s film z) (div-add-mod' y (k * p)) (same_cell (y % (k * p)) (y / (k * p)) (mod-lt y some) d))
