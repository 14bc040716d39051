-- Remainders by a variable divisor.
use mathlib.Core.Path.{◌≡◌, sym, ap, ap₂, ◌∙◌}
use mathlib.Core.Logic.{◌⊎◌, inl, inr}
use Prim.Native.Nat.{ℕ, ◌+◌, ◌-◌, ◌*◌, ◌/◌, ◌%◌, ◌≤◌, ◌<◌}
use native.Mathlib.Nat.{add-mod, mod-eq_of_lt, div-add-mod, mul-add-mod_self_left, mul_comm, mod-eq-sub-mod}
use native.Mathlib.Omega.{arith}
use Rattle.mathematics.proofs.OrderLaws.{lt_or_le}

-- a factor may be reduced first
pub mul_mod_l : (a b p : ℕ) → a % p * b % p ≡ a * b % p
mul_mod_l a b p = sym (ap (λ (x : ℕ). x % p) (omega (arith, split)) ∙ mul-add-mod_self_left p (a / p * b) (a % p * b))
  where
    split : a * b ≡ p * (a / p * b) + a % p * b
    split = ap (λ (x : ℕ). x * b) (sym (div-add-mod a p)) ∙ omega arith

pub mul_mod_r : (a b p : ℕ) → a * (b % p) % p ≡ a * b % p
mul_mod_r a b p = ap (λ (x : ℕ). x % p) (mul_comm a (b % p)) ∙ mul_mod_l b a p ∙ ap (λ (x : ℕ). x % p) (mul_comm b a)

pub mul_mod : (a b p : ℕ) → a * b % p ≡ a % p * (b % p) % p
mul_mod a b p = sym (mul_mod_r (a % p) b p ∙ mul_mod_l a b p)

-- congruence: sums and products of congruent numbers are congruent
pub cong_add : (p a b c d : ℕ) → a % p ≡ b % p → c % p ≡ d % p → (a + c) % p ≡ (b + d) % p
cong_add p a b c d h k = add-mod a c p ∙ ap₂ (λ (x y : ℕ). (x + y) % p) h k ∙ sym (add-mod b d p)

pub cong_mul : (p a b c d : ℕ) → a % p ≡ b % p → c % p ≡ d % p → a * c % p ≡ b * d % p
cong_mul p a b c d h k = mul_mod a c p ∙ ap₂ (λ (x y : ℕ). x * y % p) h k ∙ sym (mul_mod b d p)

-- uniqueness: y is q p + r with r below p
pub mod_unique : (p q r : ℕ) → r < p → (p * q + r) % p ≡ r
mod_unique p q r h = mul-add-mod_self_left p q r ∙ mod-eq_of_lt h

-- numbers below p are told apart by their remainders
pub small_eq : (p x y : ℕ) → x < p → y < p → x % p ≡ y % p → x ≡ y
small_eq p x y hx hy e = sym (mod-eq_of_lt hx) ∙ e ∙ mod-eq_of_lt hy

-- a sum of two numbers below p: one subtraction does
pub add_small : (p x y : ℕ) → x < p → y < p → ((x + y) % p ≡ x + y) ⊎ ((x + y) % p + p ≡ x + y)
add_small p x y hx hy = go (lt_or_le (x + y) p)
  where
    go : (x + y < p) ⊎ (p ≤ x + y) → ((x + y) % p ≡ x + y) ⊎ ((x + y) % p + p ≡ x + y)
    go (inl h) = inl (mod-eq_of_lt h)
    go (inr h) = inr (omega (arith, mod-eq-sub-mod h, mod-eq_of_lt {n = x + y - p} {m = p} (omega arith)))
