-- An update without scratch: the cell holds the change while it is added to the parity cells. None
-- of these is the cell itself, so the change stands until then, and the cell's own bytes are put in
-- last.
use mathlib.Core.Path.{◌≡◌, refl, sym, ap, ◌∙◌}
use mathlib.Core.Bool.{true, false}
use mathlib.Core.Logic.{⊎_elim}
use mathlib.Core.List.{List, [], ◌∷◌}
use Prim.Native.Nat.{ℕ, ◌+◌, ◌*◌, ◌%◌, ◌≤◌, ◌<◌}
use native.Mathlib.Omega.{arith}
use lib.Dec.{eqb, ltb}
use lib.ListN.{length}
use borrow.Author.Tests.{eqb-false, ltb-true}
use Rattle.mathematics.specs.Choice.{pick}
use Rattle.mathematics.specs.Lists.{is_in, distinct, all_below}
use Rattle.mathematics.specs.Xor.{xor_l}
use Rattle.mathematics.proofs.Flags.{and_l, and_r, or_false_l, or_false_r}
use Rattle.mathematics.proofs.XorLaws.{xor_l_long}
use Rattle.mathematics.proofs.OrderLaws.{eq_or_ne}
use Rattle.liberation.specs.Sets.{place}
use Rattle.liberation.proofs.SetLaws.{place_below}
use Rattle.liberation.specs.Stripes.Stripes.{cell_at, with_cell, is_stripe}
use Rattle.liberation.proofs.Stripes.StripeCellLaws.{cell_fits, cell_long, length_with, cell_with, cell_other, cells_equal}
use Rattle.liberation.proofs.Stripes.Solving.{stripe_long_lem}
use Rattle.liberation.specs.Update.Updates.{parity_of, added_each, added_from, change, updated, updated_in_place}
use Rattle.liberation.proofs.Update.ParityCells.{parity_below, parity_distinct}
use Rattle.liberation.proofs.Update.AddingLaws.{added_long, added_cell}
use Rattle.liberation.proofs.Update.Updating.{change_long, itself_data}

-- a list of n cells, and one of them, x
module _ (n s x : ℕ) (low : x < n) where
  room : (y : ℕ) (t : List ℕ) → y < n → length t ≡ n * s → y * s + s ≤ length t
  room y t h e = omega (arith, cell_fits n s y h)

  -- where x is not among them, its bytes are added to each cell of a list
  pub from_each : (ys t : List ℕ) → length t ≡ n * s → all_below n ys ≡ true → is_in x ys ≡ false → added_from s x ys t ≡ added_each s (cell_at s t x) ys t
  unfolding added_from added_each
  from_each [] t long below out = refl
  from_each (y ∷ ys) t long below out =
      from_each ys u (length_with s y new t new_long fit ∙ long) (and_r (ltb y n) (all_below n ys) below) (or_false_r (eqb x y) (is_in x ys) out)
      ∙ ap (λ (d : List ℕ). added_each s d ys u) (cell_other s y new t new_long fit x (eqb-false x y (or_false_l (eqb x y) (is_in x ys) out)))
    where
      new : List ℕ
      new = xor_l (cell_at s t y) (cell_at s t x)

      u : List ℕ
      u = with_cell s y new t

      fit : y * s + s ≤ length t
      fit = room y t (ltb-true y n (and_l _ _ below)) long

      new_long : length new ≡ s
      new_long = xor_l_long s (cell_at s t y) (cell_at s t x) (cell_long s y t fit) (cell_long s x t (room x t low long))

  -- what stood in x before does not matter where x is put in last
  pub put_last : (d old new ys t : List ℕ) → length d ≡ s → length old ≡ s → length new ≡ s → length t ≡ n * s → all_below n ys ≡ true → distinct ys ≡ true → with_cell s x new (added_each s d ys (with_cell s x old t)) ≡ with_cell s x new (added_each s d ys t)
  put_last d old new ys t dl ol nl long below once =
      cells_equal n s (with_cell s x new v) (with_cell s x new w) (put_long v vl) (put_long w wl)
      (λ y m. ⊎_elim (here y) (there y) (eq_or_ne y x))
    where
      u : List ℕ
      u = with_cell s x old t

      ulong : length u ≡ n * s
      ulong = length_with s x old t ol (room x t low long) ∙ long

      v : List ℕ
      v = added_each s d ys u

      w : List ℕ
      w = added_each s d ys t

      vl : length v ≡ n * s
      vl = added_long n s d dl ys u ulong below

      wl : length w ≡ n * s
      wl = added_long n s d dl ys t long below

      put_long : (z : List ℕ) → length z ≡ n * s → length (with_cell s x new z) ≡ n * s
      put_long z e = length_with s x new z nl (room x z low e) ∙ e

      put_here : (z : List ℕ) → length z ≡ n * s → cell_at s (with_cell s x new z) x ≡ new
      put_here z e = cell_with s x new z nl (room x z low e)

      put_there : (z : List ℕ) → length z ≡ n * s → (y : ℕ) → (y ≡ x → ⊥) → cell_at s (with_cell s x new z) y ≡ cell_at s z y
      put_there z e = cell_other s x new z nl (room x z low e)

      here : (y : ℕ) → y ≡ x → cell_at s (with_cell s x new v) y ≡ cell_at s (with_cell s x new w) y
      here y e = ap (cell_at s (with_cell s x new v)) e ∙ put_here v vl ∙ sym (ap (cell_at s (with_cell s x new w)) e ∙ put_here w wl)

      there : (y : ℕ) → (y ≡ x → ⊥) → cell_at s (with_cell s x new v) y ≡ cell_at s (with_cell s x new w) y
      there y e =
          put_there v vl y e
          ∙ added_cell n s d dl ys u ulong below once y
          ∙ ap (λ (o : List ℕ). pick (is_in y ys) (xor_l o d) o) (cell_other s x old t ol (room x t low long) y e)
          ∙ sym (put_there w wl y e ∙ added_cell n s d dl ys t long below once y)

pub in_place : (p k s r c : ℕ) → p % 2 ≡ 1 → r < p → c < k → (new : List ℕ) → length new ≡ s → (t : List ℕ) → is_stripe p k s t ≡ true → updated_in_place p k s r c new t ≡ updated p k s r c new t
unfolding updated_in_place updated
in_place p k s r c odd h l new nl t stripe =
    ap (with_cell s x new)
    (from_each n s x low ys u ulong (parity_below p k r c h) (itself_data p k s r c odd h l new nl t stripe)
    ∙ ap (λ (e : List ℕ). added_each s e ys u) (cell_with s x d t dl fit))
    ∙ put_last n s x low d d new ys t dl dl nl long (parity_below p k r c h) (parity_distinct p k r c h odd)
  where
    n : ℕ
    n = p * (k + 2)

    x : ℕ
    x = place p r c

    ys : List ℕ
    ys = parity_of p k r c

    d : List ℕ
    d = change s x new t

    u : List ℕ
    u = with_cell s x d t

    low : x < n
    low = place_below p (k + 2) r c h (omega arith)

    long : length t ≡ n * s
    long = stripe_long_lem p k s t stripe

    fit : x * s + s ≤ length t
    fit = omega (arith, long, cell_fits n s x low)

    dl : length d ≡ s
    dl = change_long p k s r c odd h l new nl t stripe

    ulong : length u ≡ n * s
    ulong = length_with s x d t dl fit ∙ long
