-- Words that are copied, and the lightest one of those left.
use mathlib.Core.Path.{◌≡◌, sym, ap, ◌∙◌, refl}
use mathlib.Core.Bool.{false, false≢true}
use mathlib.Core.List.{List}
use mathlib.Core.Logic.{⊎_elim, ◌⊎◌, inl, inr}
use Prim.Native.Nat.{ℕ, ◌+◌, ◌≤◌, ◌<◌}
use native.Mathlib.Omega.{arith}
use lib.ListN.{length, get_or, set, take}
use lib.Seq.{get_or-set_same, get_or-set_other, get_or-take, length-take-le, ext_get_or}
use Rattle.mathematics.proofs.OrderLaws.{eq_or_ne, lt_or_le}
use Rattle.mathematics.specs.BitRows.Parity.{bit}
use Rattle.std.proofs.Common.{Option, Some, None}
use Rattle.std.specs.Option.{IsSome}
use Rattle.rebuild_cells.specs.Renewed.{Chosen, Renewed}
use lib.Bits.{bit_xor}

-- ---- the first i words copied
pub copied_turn : (xs ys : List ℕ) (i v : ℕ) → i < length ys → v ≡ get_or xs i 0 → ((j : ℕ) → j < i → get_or ys j 0 ≡ get_or xs j 0) → (j : ℕ) → j < i + 1 → get_or (set ys i v) j 0 ≡ get_or xs j 0
copied_turn xs ys i v h e g j l =
    ⊎_elim
    (λ q. ap (λ (n : ℕ). get_or (set ys i v) n 0) q ∙ get_or-set_same ys i v 0 h ∙ e ∙ ap (λ (n : ℕ). get_or xs n 0) (sym q))
    (λ q. get_or-set_other ys i j v 0 q ∙ g j (omega arith))
    (eq_or_ne j i)

pub copied_end : (n : ℕ) (xs ys : List ℕ) → n ≤ length xs → n ≤ length ys → ((j : ℕ) → j < n → get_or ys j 0 ≡ get_or xs j 0) → take n ys ≡ take n xs
copied_end n xs ys hx hy g = ext_get_or 0 (take n ys) (take n xs) (length-take-le n ys hy ∙ sym (length-take-le n xs hx)) (λ j l. let h : j < n = omega (arith, length-take-le n ys hy) in get_or-take n ys j 0 h ∙ g j h ∙ sym (get_or-take n xs j 0 h))

-- ---- the lightest: unknown x is not left, or it is and is taken, or stays behind one that is
-- lighter
pub chosen_off : (n x left : ℕ) (best : Option ℕ) → bit left x ≡ false → Chosen n x left best → Chosen n (x + 1) left best
chosen_off n x left None e g = λ c l. ⊎_elim (λ m. g c m) (λ m. let q : c ≡ x = omega arith in ap (bit left) q ∙ e) (lt_or_le c x)
chosen_off n x left (Some b) e g = g

pub chosen_kept : (n x left : ℕ) (best : Option ℕ) → IsSome best → Chosen n x left best → Chosen n (x + 1) left best
chosen_kept n x left None i g = absurd (false≢true i)
chosen_kept n x left (Some b) i g = g

-- ---- words renewed
pub renew_none : (n d : ℕ) (ws ns : List ℕ) → Renewed n d ws ns ns
renew_none n d ws ns x h = inl refl

pub renew_turn :
    (n d : ℕ) (ws ns ms : List ℕ) (x v : ℕ) → x < length ms → (v ≡ get_or ms x 0) ⊎ (v ≡ bit_xor (get_or ws x 0) (get_or ws d 0))
    → Renewed n d ws ns ms → Renewed n d ws ns (set ms x v)
renew_turn n d ws ns ms x v h e g y l = ⊎_elim same (λ q. ⊎_elim (λ w. inl (get_or-set_other ms x y v 0 q ∙ w)) (λ w. inr (get_or-set_other ms x y v 0 q ∙ w)) (g y l)) (eq_or_ne y x)
  where
    here : y ≡ x → get_or (set ms x v) y 0 ≡ v
    here q = ap (λ (i : ℕ). get_or (set ms x v) i 0) q ∙ get_or-set_same ms x v 0 h

    same : y ≡ x → (get_or (set ms x v) y 0 ≡ get_or ns y 0) ⊎ (get_or (set ms x v) y 0 ≡ bit_xor (get_or ws y 0) (get_or ws d 0))
    same q =
        ⊎_elim
        (λ w. let z = here q ∙ w ∙ ap (λ (i : ℕ). get_or ms i 0) (sym q) in ⊎_elim (λ o. inl (z ∙ o)) (λ o. inr (z ∙ o)) (g y l))
        (λ w. inr (here q ∙ w ∙ ap (λ (i : ℕ). bit_xor (get_or ws i 0) (get_or ws d 0)) (sym q)))
        e
