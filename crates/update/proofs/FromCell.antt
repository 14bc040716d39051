-- Bytes added from one cell to others: one gather of two offsets is one addition, and the additions
-- in a row are the list's.
use mathlib.Core.Path.{◌≡◌, sym, ap, ap₂, ◌∙◌}
use mathlib.Core.Bool.{Bool, true}
use mathlib.Core.Logic.{◌⊎◌, inl, inr}
use mathlib.Core.List.{List, [], ◌∷◌}
use Prim.Native.Nat.{ℕ, zero, suc, ◌+◌, ◌-◌, ◌*◌, ◌≤◌, ◌<◌}
use native.Mathlib.Omega.{arith}
use lib.Dec.{eqb}
use lib.ListN.{length, get_or}
use borrow.Author.Tests.{eq-eqb, ne_eqb}
use Rattle.mathematics.specs.Choice.{pick}
use Rattle.mathematics.specs.Xor.{xor_l, all_bytes}
use Rattle.mathematics.proofs.XorLaws.{xor_l_zeros}
use Rattle.liberation.specs.Sets.{place, extra_row}
use Rattle.liberation.specs.Plans.{diagonal_of}
use Rattle.liberation.specs.Stripes.Stripes.{cell_at, with_cell}
use Rattle.liberation.proofs.Stripes.StripeCellLaws.{cell_fits, cell_long}
use Rattle.liberation.proofs.Stripes.Solving.{cell_bytes_lem}
use Rattle.liberation.specs.Update.Updates.{parity_of, added_from}
use Rattle.liberation.proofs.Update.ParityCells.{parity_list}
use Rattle.xor.specs.Parts.{xor_offsets}
use Rattle.xor_in_place.specs.Beside.{Beside}
use Rattle.update.specs.Cells.{DataCell}

-- a cell y of t, and a cell x before it
module _ (s x y : ℕ) (t : List ℕ) (h : x < y) (fits : y * s + s ≤ length t) where
  from_fits : x * s + s ≤ y * s
  from_fits = cell_fits y s x h

  pub two_beside : Beside (y * s) s (length t) (y * s ∷ (x * s ∷ []))
  two_beside =
      record {
        sources = record { few = omega arith; inside = inside };
        fits = fits;
        apart = apart;
      }
    where
      inside : (i : ℕ) → i < 2 → get_or (y * s ∷ (x * s ∷ [])) i 0 + s ≤ length t
      inside zero l = fits
      inside (suc zero) l = omega (arith, fits, from_fits)
      inside (suc (suc i)) l = absurd (omega arith)

      apart : (i : ℕ) → i < 2 → (get_or (y * s ∷ (x * s ∷ [])) i 0 + s ≤ y * s) ⊎ (y * s ≤ get_or (y * s ∷ (x * s ∷ [])) i 0)
      apart zero l = inr (omega arith)
      apart (suc zero) l = inl from_fits
      apart (suc (suc i)) l = absurd (omega arith)

  pub two_added : all_bytes t ≡ true → with_cell s y (xor_offsets s t (y * s ∷ (x * s ∷ []))) t ≡ with_cell s y (xor_l (cell_at s t y) (cell_at s t x)) t
  unfolding xor_offsets
  two_added b = ap (λ (l : List ℕ). with_cell s y (xor_l (cell_at s t y) l) t) (xor_l_zeros s (cell_at s t x) (cell_long s x t (omega (arith, fits, from_fits))) (cell_bytes_lem s x t b))

-- the cell y with the bytes of the cell x added
abbrev pub plus : ℕ → ℕ → ℕ → List ℕ → List ℕ
plus s x y t = with_cell s y (xor_l (cell_at s t y) (cell_at s t x)) t

-- a data cell, and the diagonal z of which it is an ordinary cell
module _ (p k s r c z : ℕ) (t : List ℕ) (d : DataCell p k s r c t) (e : z ≡ diagonal_of p c r) where
  parity_is : parity_of p k r c ≡ place p r k ∷ (place p z (suc k) ∷ pick (eqb (suc z) (extra_row p r)) (place p (suc z) (suc k) ∷ []) [])
  parity_is =
      parity_list p k r c d.row d.odd (omega (arith, d.disk, d.disks))
      ∙ ap (λ (i : ℕ). place p r k ∷ (place p i (suc k) ∷ pick (eqb (suc i) (extra_row p r)) (place p (suc i) (suc k) ∷ []) [])) (sym e)

  -- one diagonal holds it
  pub added_once : (u v : List ℕ) → u ≡ plus s (place p r c) (place p r k) t → v ≡ plus s (place p r c) (place p z (k + 1)) u → (z + 1 ≡ p - 1 - r → ⊥) → v ≡ added_from s (place p r c) (parity_of p k r c) t
  unfolding added_from
  added_once u v eu ev n =
      let q : place p z (k + 1) ≡ place p z (suc k) = omega arith in
      ev
      ∙ ap₂ (plus s (place p r c)) q eu
      ∙ ap (λ (b : Bool). added_from s (place p r c) (place p r k ∷ (place p z (suc k) ∷ pick b (place p (suc z) (suc k) ∷ []) [])) t) (sym (ne_eqb (suc z) (extra_row p r) (λ w. n (omega arith))))
      ∙ ap (λ (ys : List ℕ). added_from s (place p r c) ys t) (sym parity_is)

  -- so does the next one
  pub added_twice : (u v w : List ℕ) → u ≡ plus s (place p r c) (place p r k) t → v ≡ plus s (place p r c) (place p z (k + 1)) u → w ≡ plus s (place p r c) (place p z (k + 1) + 1) v → z + 1 ≡ p - 1 - r → w ≡ added_from s (place p r c) (parity_of p k r c) t
  unfolding added_from
  added_twice u v w eu ev ew n =
      let q : place p z (k + 1) ≡ place p z (suc k) = omega arith in
      let o : place p z (k + 1) + 1 ≡ place p (suc z) (suc k) = omega arith in
      ew
      ∙ ap₂ (plus s (place p r c)) o (ev ∙ ap₂ (plus s (place p r c)) q eu)
      ∙ ap (λ (b : Bool). added_from s (place p r c) (place p r k ∷ (place p z (suc k) ∷ pick b (place p (suc z) (suc k) ∷ []) [])) t) (sym (eq-eqb (suc z) (extra_row p r) (omega arith)))
      ∙ ap (λ (ys : List ℕ). added_from s (place p r c) ys t) (sym parity_is)
