-- Which way the walk goes: the multiples of the gap tried one by one.
use mathlib.Core.Path.{◌≡◌, refl, sym, ap, ap₂, ◌∙◌}
use mathlib.Core.Bool.{Bool, true, false, ◌||◌}
use Prim.Native.Nat.{ℕ, zero, suc, ◌+◌, ◌%◌, ◌≤◌, ◌<◌}
use native.Mathlib.Omega.{arith}
use borrow.Author.Tests.{eq-eqb, ne_eqb}
use Rattle.liberation.specs.TwoDisks.Pairs.{comes_to_one}

pub one_found : (n p d r : ℕ) → 0 < n → r ≡ 1 → comes_to_one n p d r ≡ true
unfolding comes_to_one
one_found zero p d r h e = absurd (omega arith)
one_found (suc n) p d r h e = ap (λ (b : Bool). b || comes_to_one n p d ((r + d) % p)) (eq-eqb r 1 e)

-- the next multiple
pub one_turn : (n m p d r q : ℕ) → q ≡ (r + d) % p → n ≡ m + 1 → (r ≡ 1 → ⊥) → comes_to_one m p d q ≡ comes_to_one n p d r
unfolding comes_to_one
one_turn zero m p d r q f h e = absurd (omega arith)
one_turn (suc n) m p d r q f h e =
    let l : m ≡ n = omega arith in
    ap₂ (λ (i j : ℕ). comes_to_one i p d j) l f ∙ sym (ap (λ (b : Bool). b || comes_to_one n p d ((r + d) % p)) (ne_eqb r 1 e))

pub one_none : (n p d r : ℕ) → n ≤ 0 → comes_to_one n p d r ≡ false
unfolding comes_to_one
one_none zero p d r h = refl
one_none (suc n) p d r h = absurd (omega arith)
