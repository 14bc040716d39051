-- The order of updates (document 02, ask 9): two different data cells may be updated in either
-- order, and of two updates of one cell the second alone tells what is there. Any stripe, clean or
-- dirty.
-- An update of one data cell leaves the other as it is, so each change is taken from the first
-- stripe; a parity cell of both gets the two changes in either order.
use mathlib.Core.Path.{◌≡◌, refl, sym, ap, ap₂, ◌∙◌}
use mathlib.Core.Bool.{Bool, true, false}
use mathlib.Core.List.{List}
use Prim.Native.Nat.{ℕ, ◌+◌, ◌*◌, ◌%◌, ◌<◌}
use lib.Dec.{eqb}
use lib.ListN.{length}
use borrow.Author.Tests.{eqb-true, ne_eqb}
use Rattle.mathematics.specs.Lists.{is_in}
use Rattle.mathematics.specs.Xor.{xor_l, all_bytes}
use Rattle.mathematics.proofs.XorLaws.{xor_l_assoc, xor_l_comm, xor_l_twice}
use Rattle.liberation.specs.Sets.{place, row_at, disk_at}
use Rattle.liberation.proofs.SetLaws.{disk_place, row_place, place_below}
use Rattle.liberation.specs.Stripes.Stripes.{cell_at, is_stripe}
use Rattle.liberation.proofs.Stripes.StripeCellLaws.{cells_equal}
use Rattle.liberation.specs.Update.Updates.{parity_of, change, updated}
use Rattle.liberation.proofs.Update.ParityCells.{parity_data}
use Rattle.liberation.proofs.Update.Updating.{became, made, updated_long, updated_stripe, updated_at, updated_new, updated_data, updated_only}

-- two changes in either order
became_turn : (a b m n : Bool) (u v d e o : List ℕ) → (a ≡ true → b ≡ false) → (a ≡ true → n ≡ false) → (b ≡ true → m ≡ false) → became b n v e (became a m u d o) ≡ became a m u d (became b n v e o)
became_turn true b m n u v d e o apart x y = ap₂ (λ (f g : Bool). became f g v e u) (apart refl) (x refl)
became_turn false true m n u v d e o apart x y = sym (ap (λ (f : Bool). became false f u d v) (y refl))
became_turn false false true true u v d e o apart x y = xor_l_assoc o d e ∙ ap (xor_l o) (xor_l_comm d e) ∙ sym (xor_l_assoc o e d)
became_turn false false true false u v d e o apart x y = refl
became_turn false false false n u v d e o apart x y = refl

-- one place twice: from w to u and from u to v is from w to v
became_again : (s : ℕ) (a m : Bool) (u v w o : List ℕ) → length u ≡ s → length v ≡ s → all_bytes v ≡ true → became a m v (xor_l u v) (became a m u (xor_l w u) o) ≡ became a m v (xor_l w v) o
became_again s true m u v w o ul vl vb = refl
became_again s false true u v w o ul vl vb =
    xor_l_assoc o (xor_l w u) (xor_l u v)
    ∙ ap (xor_l o) (xor_l_assoc w u (xor_l u v) ∙ ap (xor_l w) (xor_l_twice s u v ul vl vb))
became_again s false false u v w o ul vl vb = refl

-- two data cells (a, b) and (r, c), with new bytes u and v
module _ (p k s a b r c : ℕ) (odd : p % 2 ≡ 1) (ha : a < p) (hb : b < k) (hr : r < p) (hc : c < k) (u v : List ℕ) (ul : length u ≡ s) (vl : length v ≡ s) (ub : all_bytes u ≡ true) (t : List ℕ) (stripe : is_stripe p k s t ≡ true) (apart : place p r c ≡ place p a b → ⊥) where
  first_stripe : is_stripe p k s (updated p k s a b u t) ≡ true
  first_stripe = updated_stripe p k s a b odd ha hb u ul t stripe ub

  -- the second change is the one of the first stripe
  change_kept : change s (place p r c) v (updated p k s a b u t) ≡ change s (place p r c) v t
  change_kept = ap (λ (o : List ℕ). xor_l o v) (updated_data p k s a b odd ha hb u ul t stripe (place p r c) (place_below p k r c hr hc) apart)

  both_long : length (updated p k s r c v (updated p k s a b u t)) ≡ p * (k + 2) * s
  both_long = updated_long p k s r c odd hr hc v vl (updated p k s a b u t) first_stripe

  -- a cell after both
  both_at : (y : ℕ) → cell_at s (updated p k s r c v (updated p k s a b u t)) y ≡ made p k s r c v t y (made p k s a b u t y (cell_at s t y))
  both_at y =
      updated_at p k s r c odd hr hc v vl (updated p k s a b u t) first_stripe y
      ∙ ap₂ (λ (d o : List ℕ). became (eqb y (place p r c)) (is_in y (parity_of p k r c)) v d o) change_kept (updated_at p k s a b odd ha hb u ul t stripe y)

-- two different data cells in either order
pub updates_turn : (p k s a b r c : ℕ) → p % 2 ≡ 1 → a < p → b < k → r < p → c < k → (a ≡ r → b ≡ c → ⊥) → (u v : List ℕ) → length u ≡ s → length v ≡ s → all_bytes u ≡ true → all_bytes v ≡ true → (t : List ℕ) → is_stripe p k s t ≡ true → updated p k s r c v (updated p k s a b u t) ≡ updated p k s a b u (updated p k s r c v t)
updates_turn p k s a b r c odd ha hb hr hc other u v ul vl ub vb t stripe =
    cells_equal (p * (k + 2)) s (updated p k s r c v (updated p k s a b u t)) (updated p k s a b u (updated p k s r c v t))
    (both_long p k s a b r c odd ha hb hr hc u v ul vl ub t stripe back)
    (both_long p k s r c a b odd hr hc ha hb v u vl ul vb t stripe apart)
    (λ y m. both_at p k s a b r c odd ha hb hr hc u v ul vl ub t stripe back y ∙ turn y ∙ sym (both_at p k s r c a b odd hr hc ha hb v u vl ul vb t stripe apart y))
  where
    apart : place p a b ≡ place p r c → ⊥
    apart e = other (sym (row_place p a b ha) ∙ ap (row_at p) e ∙ row_place p r c hr) (sym (disk_place p a b ha) ∙ ap (disk_at p) e ∙ disk_place p r c hr)

    back : place p r c ≡ place p a b → ⊥
    back e = apart (sym e)

    -- a data cell is no parity cell of another
    data_off : (y i d j e : ℕ) → i < p → d < k → j < p → eqb y (place p i d) ≡ true → is_in y (parity_of p k j e) ≡ false
    data_off y i d j e hi hd hj q = ap (λ (z : ℕ). is_in z (parity_of p k j e)) (eqb-true y (place p i d) q) ∙ parity_data p k j e hj (place p i d) (place_below p k i d hi hd)

    turn : (y : ℕ) → made p k s r c v t y (made p k s a b u t y (cell_at s t y)) ≡ made p k s a b u t y (made p k s r c v t y (cell_at s t y))
    turn y =
        became_turn (eqb y (place p a b)) (eqb y (place p r c)) (is_in y (parity_of p k a b)) (is_in y (parity_of p k r c)) u v (change s (place p a b) u t) (change s (place p r c) v t) (cell_at s t y)
        (λ e. ne_eqb y (place p r c) (λ q. apart (sym (eqb-true y (place p a b) e) ∙ q)))
        (λ e. data_off y a b r c ha hb hr e)
        (λ e. data_off y r c a b hr hc ha e)

-- one data cell twice
pub updates_again : (p k s r c : ℕ) → p % 2 ≡ 1 → r < p → c < k → (u v : List ℕ) → length u ≡ s → length v ≡ s → all_bytes u ≡ true → all_bytes v ≡ true → (t : List ℕ) → is_stripe p k s t ≡ true → updated p k s r c v (updated p k s r c u t) ≡ updated p k s r c v t
updates_again p k s r c odd h l u v ul vl ub vb t stripe =
    updated_only p k s r c odd h l v vl t stripe (updated p k s r c v w) (updated_long p k s r c odd h l v vl w w_stripe) cell
  where
    w : List ℕ
    w = updated p k s r c u t

    w_stripe : is_stripe p k s w ≡ true
    w_stripe = updated_stripe p k s r c odd h l u ul t stripe ub

    cell : (y : ℕ) → y < p * (k + 2) → cell_at s (updated p k s r c v w) y ≡ made p k s r c v t y (cell_at s t y)
    cell y m =
        updated_at p k s r c odd h l v vl w w_stripe y
        ∙ ap₂ (λ (d o : List ℕ). became (eqb y (place p r c)) (is_in y (parity_of p k r c)) v (xor_l d v) o) (updated_new p k s r c odd h l u ul t stripe) (updated_at p k s r c odd h l u ul t stripe y)
        ∙ became_again s (eqb y (place p r c)) (is_in y (parity_of p k r c)) u v (cell_at s t (place p r c)) (cell_at s t y) ul vl vb
