-- The first of two refusal numbers, and a number under a flag: when they are 0 and when not.
use mathlib.Core.Path.{◌≡◌, refl, sym, ap, ◌∙◌}
use mathlib.Core.Bool.{Bool, true, false, ◌&&◌, false≢true}
use Prim.Native.Nat.{ℕ, zero, suc, ◌≤◌}
use native.Mathlib.Omega.{arith}
use lib.Dec.{eqb}
use borrow.Author.Tests.{ne_eqb}
use Rattle.mathematics.specs.Choice.{pick, when, first_of}

-- a refusal goes before all that come after it
pub first_is : (n m : ℕ) → eqb n 0 ≡ false → first_of n m ≡ n
first_is zero m e = absurd (false≢true (sym e))
first_is (suc n) m e = refl

-- n is the first refusal, and there is one
pub first_kept : (n a b : ℕ) → n ≡ a → (n ≡ 0 → ⊥) → n ≡ first_of a b
first_kept n a b e z = e ∙ sym (first_is a b (ne_eqb a 0 (λ q. z (e ∙ q))))

-- there is none, and n is the second
pub first_next : (n a b : ℕ) → a ≡ 0 → n ≡ b → n ≡ first_of a b
first_next n a b z e = e ∙ ap (λ (x : ℕ). first_of x b) (sym z)

-- no first refusal: neither of the two
pub first_none : (a b : ℕ) → first_of a b ≡ 0 → (a ≡ 0) × (b ≡ 0)
first_none zero b e = (refl, e)
first_none (suc a) b e = absurd (omega arith)

pub first_zero : (a : ℕ) → first_of a 0 ≡ a
first_zero zero = refl
first_zero (suc a) = refl

pub first_assoc : (a b c : ℕ) → first_of (first_of a b) c ≡ first_of a (first_of b c)
first_assoc zero b c = refl
first_assoc (suc a) b c = refl

-- a number that is not 0, under a flag: it is 0 only where the flag fails
pub when_none : (t : Bool) (n : ℕ) → when t (suc n) ≡ 0 → t ≡ false
when_none true n e = absurd (omega arith)
when_none false n e = refl

-- a flag counts at most 1
pub when_most : (t : Bool) → when t 1 ≤ 1
when_most true = omega arith
when_most false = omega arith

-- What is picked by a refusal number that a test gave: the second where it is not 0, the first
-- where it is.
pub pick_refused : {A : Type 0} (n m : ℕ) (x y : A) → n ≡ m → (n ≡ 0 → ⊥) → y ≡ pick (eqb m 0) x y
pick_refused n m x y e z = sym (ap (λ (b : Bool). pick b x y) (ne_eqb m 0 (λ q. z (e ∙ q))))

pub pick_done : {A : Type 0} (m : ℕ) (x y : A) → m ≡ 0 → x ≡ pick (eqb m 0) x y
pick_done m x y e = sym (ap (λ (n : ℕ). pick (eqb n 0) x y) e)

pub and_refused : (n m : ℕ) (t : Bool) → n ≡ m → (n ≡ 0 → ⊥) → false ≡ (eqb m 0 && t)
and_refused n m t e z = sym (ap (λ (b : Bool). b && t) (ne_eqb m 0 (λ q. z (e ∙ q))))

pub and_done : (m : ℕ) (t : Bool) → m ≡ 0 → t ≡ (eqb m 0 && t)
and_done m t e = sym (ap (λ (n : ℕ). eqb n 0 && t) e)
