-- A word that names the row set of a cell alone, or its diagonal: the step by the word is the step
-- by the set.
use mathlib.Core.Path.{◌≡◌, sym, ap, ap₂, subst, ◌∙◌}
use mathlib.Core.Bool.{true}
use mathlib.Core.List.{List}
use mathlib.Core.Logic.{⊎_elim}
use Prim.Native.Nat.{ℕ, suc, ◌+◌, ◌-◌, ◌*◌, ◌/◌, ◌%◌, ◌^◌, ◌≤◌, ◌<◌}
use native.Mathlib.Nat.{mod-lt}
use native.Mathlib.Omega.{arith}
use lib.Dec.{eqb}
use borrow.Author.Tests.{eqb-true, eq-eqb}
use Rattle.mathematics.specs.Lists.{is_in}
use Rattle.mathematics.proofs.Flags.{and_l, and_r}
use Rattle.mathematics.proofs.OrderLaws.{lt_or_le}
use Rattle.liberation.specs.Limits.{InArray}
use Rattle.liberation.specs.Plans.{diagonal_of}
use Rattle.liberation.specs.Sets.{place, set_of}
use Rattle.liberation.proofs.SetLaws.{place_of, diagonal_of_lem, in_diagonal_parity}
use Rattle.liberation.specs.Stripes.Stripes.{solved}
use Rattle.liberation.specs.Stripes.StripeLimits.{Sized}
use Rattle.liberation.proofs.Stripes.SizedLaws.{sized_long}
use Rattle.refusals.specs.declared.array.Array.{Array}
use Rattle.refusals.specs.declared.array.Geometry.{Geometry}
use Rattle.refusals.specs.StripeOf.{IsStripeOf}
use Rattle.refusals.proofs.WithinLimits.{in_array, sized}
use Rattle.parity_sets.specs.declared.set.ParitySet.{ParitySet}
use Rattle.parity_sets.specs.declared.set.ParitySet.TheVariants.{Row, Diagonal}
use Rattle.parity_sets.specs.ParitySets.{cells_of}
use Rattle.rebuild_cells.specs.Alone.{IsAlone}
use Rattle.stripe_cells.specs.Cells.{Ordinary, IsOrdinary}
use Rattle.stripe_cells.proofs.OrdinaryLaws.{diagonal_own, parity_own}
use Rattle.rebuild_cells.specs.Theory.Mending.{set_numbered, odd_cells}
use Rattle.rebuild_cells.proofs.NumberedLaws.{numbered_row, numbered_diagonal}
use Rattle.rebuild_cells.proofs.Theory.SingleSets.{single_cell, single_solved}

-- a word that names set i alone
module _ (p k x w i kind n : ℕ) (some : 0 < p) (hi : i < 2 * p) (numbered : set_numbered p k i ≡ set_of p k kind n) (is : w ≡ 2 ^ i) (held : is_in x (odd_cells p k w) ≡ true) where
  in_numbered : is_in x (set_numbered p k i) ≡ true
  in_numbered = sym (single_cell p k some i hi x) ∙ ap (λ (v : ℕ). is_in x (odd_cells p k v)) (sym is) ∙ held

  in_set : is_in (place p (x % p) (x / p)) (set_of p k kind n) ≡ true
  in_set = ap₂ (λ (y : ℕ) (ys : List ℕ). is_in y ys) (place_of p x) (sym numbered) ∙ in_numbered

  set_solved : (s : ℕ) (t : List ℕ) → Sized p k s t → solved s (place p (x % p) (x / p)) (set_of p k kind n) t ≡ solved s x (odd_cells p k w) t
  set_solved s t z =
      ap₂ (λ (y : ℕ) (ys : List ℕ). solved s y ys t) (place_of p x) (sym numbered)
      ∙ sym (single_solved p k some i hi s t (sized_long p k s t z) x in_numbered)
      ∙ ap (λ (v : ℕ). solved s x (odd_cells p k v) t) (sym is)

-- the row set
row_ordinary : (p k x w : ℕ) → 0 < p → w ≡ 2 ^ (x % p) → is_in x (odd_cells p k w) ≡ true → Ordinary p k 0 (x % p) (x / p) (x % p)
row_ordinary p k x w some is held =
    let h = mod-lt x some in
    record { numbered = h; row = h; own = in_set p k x w (x % p) 0 (x % p) some (omega arith) (numbered_row p k (x % p) h) is held }

row_solved :
    (p k s x w : ℕ) (t : List ℕ) → Sized p k s t → w ≡ 2 ^ (x % p) → is_in x (odd_cells p k w) ≡ true
    → solved s (place p (x % p) (x / p)) (set_of p k 0 (x % p)) t ≡ solved s x (odd_cells p k w) t
row_solved p k s x w t z is held =
    let some = z.array.some in
    let h = mod-lt x some in
    set_solved p k x w (x % p) 0 (x % p) some (omega arith) (numbered_row p k (x % p) h) is held s t z

-- the diagonal d, of which the cell is an ordinary one
module _ (p k x w d : ℕ) (array : InArray p k) (hd : d < p) (is : w ≡ 2 ^ (p + d)) (held : is_in x (odd_cells p k w) ≡ true) where
  numbered : set_numbered p k (p + d) ≡ set_of p k 1 d
  numbered = let z : p + d - p ≡ d = omega arith in numbered_diagonal p k (p + d) (omega arith) (omega arith) ∙ ap (set_of p k 1) z

  diagonal_ordinary : (x / p < k → d ≡ diagonal_of p (x / p) (x % p)) → Ordinary p k 1 d (x / p) (x % p)
  diagonal_ordinary ordinary = ⊎_elim on_data on_parity (lt_or_le (x / p) k)
    where
      h : x % p < p
      h = mod-lt x array.some

      on_data : x / p < k → Ordinary p k 1 d (x / p) (x % p)
      on_data l =
          let m : x / p < p = omega (arith, array.disks) in
          diagonal_own p k d (x / p) (x % p) hd h l (eqb-true (x % p) ((d + x / p) % p) (diagonal_of_lem p d (x % p) (x / p) hd h m ∙ eq-eqb d ((x % p + p - x / p) % p) (ordinary l)))

      on_parity : k ≤ x / p → Ordinary p k 1 d (x / p) (x % p)
      on_parity l =
          let e = sym (in_diagonal_parity p k d (x % p) (x / p) h hd l) ∙ in_set p k x w (p + d) 1 d array.some (omega arith) numbered is held in
          let c : k + 1 ≡ x / p = omega (arith, eqb-true (x / p) (suc k) (and_l (eqb (x / p) (suc k)) (eqb (x % p) d) e)) in
          let r : d ≡ x % p = sym (eqb-true (x % p) d (and_r (eqb (x / p) (suc k)) (eqb (x % p) d) e)) in
          subst (λ (y : ℕ). Ordinary p k 1 d y (x % p)) c (subst (λ (y : ℕ). Ordinary p k 1 d (k + 1) y) r (parity_own p k d hd))

  diagonal_solved : (s : ℕ) (t : List ℕ) → Sized p k s t → solved s (place p (x % p) (x / p)) (set_of p k 1 d) t ≡ solved s x (odd_cells p k w) t
  diagonal_solved s t z = set_solved p k x w (p + d) 1 d array.some (omega arith) numbered is held s t z

-- the set that a word names alone
pub alone_ordinary : (a : Array) (x w : ℕ) (s : ParitySet) → IsAlone a (x / a.width) (x % a.width) w s → is_in x (odd_cells a.width a.disks w) ≡ true → IsOrdinary a s (x / a.width) (x % a.width)
alone_ordinary a x w (Row i) h held = subst (λ (n : ℕ). Ordinary a.width a.disks 0 n (x / a.width) (x % a.width)) (sym h.0) (row_ordinary a.width a.disks x w a.some (h.1 ∙ ap (λ (n : ℕ). 2 ^ n) h.0) held)
alone_ordinary a x w (Diagonal d) h held = diagonal_ordinary a.width a.disks x w d (in_array a) h.0 h.1 held h.2

pub alone_solved :
    (g : Geometry) (x w : ℕ) (s : ParitySet) (t : List ℕ) → IsStripeOf g t → IsAlone g.array (x / g.array.width) (x % g.array.width) w s → is_in x (odd_cells g.array.width g.array.disks w) ≡ true
    → solved g.cell_size (place g.array.width (x % g.array.width) (x / g.array.width)) (cells_of g.array.width g.array.disks s) t ≡ solved g.cell_size x (odd_cells g.array.width g.array.disks w) t
alone_solved g x w (Row i) t e h held =
    let a = g.array in
    ap (λ (n : ℕ). solved g.cell_size (place a.width (x % a.width) (x / a.width)) (set_of a.width a.disks 0 n) t) h.0
    ∙ row_solved a.width a.disks g.cell_size x w t (sized g t e) (h.1 ∙ ap (λ (n : ℕ). 2 ^ n) h.0) held
alone_solved g x w (Diagonal d) t e h held = diagonal_solved g.array.width g.array.disks x w d (in_array g.array) h.0 h.1 held g.cell_size t (sized g t e)
