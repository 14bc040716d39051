-- A prime: no number between 1 and it divides it. Every non-zero residue has an inverse; so a walk
-- by any step visits every residue, each once.
use mathlib.Core.Path.{◌≡◌, refl, sym, ap, ◌∙◌}
use mathlib.Core.Bool.{Bool, true, ◌&&◌, ◌||◌, not, false≢true}
use mathlib.Core.Logic.{◌⊎◌, inl, inr, ⊎_elim}
use Prim.Native.Nat.{ℕ, zero, suc, ◌+◌, ◌-◌, ◌*◌, ◌/◌, ◌%◌, ◌≤◌, ◌<◌}
use native.Mathlib.Nat.{mod-lt, mod-eq_of_lt, div-add-mod, mul-add-mod_self_left, mul_assoc, one-mul}
use native.Mathlib.Omega.{arith}
use mathlib.Core.List.{List, [], ◌∷◌}
use lib.Dec.{eqb, leb, ltb}
use borrow.Author.Tests.{eqb-false, leb-true, ltb-true, eqb-true, not-true}
use Rattle.mathematics.specs.Lists.{is_in}
use Rattle.mathematics.proofs.Flags.{and_l, and_r, or_cases}
use Rattle.mathematics.proofs.Modulo.{mul_mod_l, mul_mod_r, cong_mul, cong_add, small_eq}
use Rattle.mathematics.proofs.OrderLaws.{lt_or_le}

pub record Prime (p : ℕ) : Type 0 where
  pub large : 1 < p
  pub whole : (d : ℕ) → 1 < d → d < p → p % d ≡ 0 → ⊥

-- r is p less q a, and v r is 1: then -v q is the inverse of a
turned : (p m a q r v : ℕ) → p ≡ m + 1 → a * q + r ≡ p → p * v + a * (m * (q * v)) ≡ p * (a * (q * v)) + r * v
turned p m a q r v e d = omega (arith, ap (λ (x : ℕ). x * v) d, ap (λ (x : ℕ). x * (a * (q * v))) e)

step : (p a v : ℕ) → 1 < p → p % a * v % p ≡ 1 → a * ((p - 1) * (p / a * v)) % p ≡ 1
step p a v h e =
    sym (mul-add-mod_self_left p v (a * ((p - 1) * (p / a * v))))
    ∙ ap (λ (x : ℕ). x % p) (turned p (p - 1) a (p / a) (p % a) v (omega arith) (div-add-mod p a))
    ∙ mul-add-mod_self_left p (a * (p / a * v)) (p % a * v)
    ∙ e

-- what (p - 1) e adds back to e
back : (p e a : ℕ) → 0 < p → (p - 1) * e + (e + a) ≡ p * e + a
back p e a h = with_pred p (p - 1) (omega arith)
  where
    with_pred : (q m : ℕ) → q ≡ m + 1 → m * e + (e + a) ≡ q * e + a
    with_pred q m d = omega (arith, ap (λ (x : ℕ). x * e) d)

pub add_cancel : (p e a b : ℕ) → 0 < p → (e + a) % p ≡ (e + b) % p → a % p ≡ b % p
add_cancel p e a b h q = sym (undo a) ∙ cong_add p ((p - 1) * e) ((p - 1) * e) (e + a) (e + b) refl q ∙ undo b
  where
    undo : (c : ℕ) → ((p - 1) * e + (e + c)) % p ≡ c % p
    undo c = ap (λ (x : ℕ). x % p) (back p e c h) ∙ mul-add-mod_self_left p e c

module _ (p : ℕ) (ok : Prime p) where
  Inverse : ℕ → Type 0
  Inverse a = (u : ℕ) × (a * u % p ≡ 1)

  -- p % a is smaller, and is not 0
  inverse_step : (a : ℕ) → 0 < a → a < p → ((b : ℕ) → b < a → 0 < b → b < p → Inverse b) → Inverse a
  unfolding Inverse
  inverse_step a h k smaller = go (lt_or_le 1 a)
    where
      go : (1 < a) ⊎ (a ≤ 1) → (u : ℕ) × (a * u % p ≡ 1)
      go (inl b) =
          let l : p % a < a = mod-lt p h in
          let z : p % a ≡ 0 → ⊥ = ok.whole a b k in
          let s = smaller (p % a) l (omega arith) (omega arith) in
          ((p - 1) * (p / a * s.0), step p a s.0 ok.large s.1)
      go (inr b) = (1, ap (λ (x : ℕ). x % p) (omega arith) ∙ mod-eq_of_lt ok.large)

  -- a falls; n bounds it
  inverse_in : (n a : ℕ) → a < n → 0 < a → a < p → Inverse a
  inverse_in zero a l h k = absurd (omega arith)
  inverse_in (suc n) a l h k = inverse_step a h k (λ b m g i. inverse_in n b (omega arith) g i)

  pub inverse : (a : ℕ) → 0 < a → a < p → (u : ℕ) × (a * u % p ≡ 1)
  unfolding Inverse
  inverse a h k = inverse_in (suc a) a (omega arith) h k

  -- a step that is no multiple of p can be divided out
  pub cancel : (a x y : ℕ) → 0 < a → a < p → a * x % p ≡ a * y % p → x % p ≡ y % p
  cancel a x y h k e = let u = inverse a h k in undo x u.0 u.1 ∙ cong_mul p u.0 u.0 (a * x) (a * y) refl e ∙ sym (undo y u.0 u.1)
    where
      undo : (z u : ℕ) → a * u % p ≡ 1 → z % p ≡ u * (a * z) % p
      undo z u o = sym (ap (λ (w : ℕ). w % p) (omega arith) ∙ sym (mul_mod_l (a * u) z p) ∙ ap (λ (w : ℕ). w * z % p) o ∙ ap (λ (w : ℕ). w % p) (omega arith))

  -- the walk e, e + d, e + 2 d, .. comes to every residue t, at one time below p
  pub visits : (e d t : ℕ) → 0 < d → d < p → t < p → (j : ℕ) × (j < p) × ((e + d * j) % p ≡ t)
  visits e d t h k l = let u = inverse d h k in ((u.0 * g) % p, mod-lt (u.0 * g) (omega (arith, ok.large)), lands u.0 u.1)
    where
      g : ℕ
      g = t + (p - 1) * e

      undo : (u : ℕ) → d * u % p ≡ 1 → d * (u * g % p) % p ≡ g % p
      undo u o = mul_mod_r d (u * g) p ∙ ap (λ (w : ℕ). w % p) (sym (mul_assoc d u g)) ∙ sym (mul_mod_l (d * u) g p) ∙ ap (λ (w : ℕ). w * g % p) o ∙ ap (λ (w : ℕ). w % p) (one-mul g)

      lands : (u : ℕ) → d * u % p ≡ 1 → (e + d * (u * g % p)) % p ≡ t
      lands u o =
          cong_add p e e (d * (u * g % p)) g refl (undo u o)
          ∙ ap (λ (w : ℕ). w % p) (omega (arith, back p e t (omega (arith, ok.large))))
          ∙ mul-add-mod_self_left p e t
          ∙ mod-eq_of_lt l

  -- and never twice
  pub once : (e d i j : ℕ) → 0 < d → d < p → i < p → j < p → (e + d * i) % p ≡ (e + d * j) % p → i ≡ j
  once e d i j h k hi hj q = small_eq p i j hi hj (cancel d i j h k (add_cancel p e (d * i) (d * j) (omega arith) q))

-- a prime by a computed test
abbrev pub no_divisor : ℕ → ℕ → Bool
no_divisor zero p = true
no_divisor (suc d) p = (leb d 1 || not (eqb (p % d) 0)) && no_divisor d p

no_divisor_lem : (n p d : ℕ) → no_divisor n p ≡ true → 1 < d → d < n → p % d ≡ 0 → ⊥
no_divisor_lem zero p d t h k e = omega arith
no_divisor_lem (suc n) p d t h k e =
    ⊎_elim (λ l. no_divisor_lem n p d (and_r (leb n 1 || not (eqb (p % n) 0)) (no_divisor n p) t) h l e) (λ l. last l) (lt_or_le d n)
  where
    here : d ≡ n → (leb d 1 ≡ true) ⊎ (not (eqb (p % d) 0) ≡ true) → ⊥
    here q (inl l) = omega (arith, leb-true d 1 l)
    here q (inr l) = eqb-false (p % d) 0 (not-true (eqb (p % d) 0) l) e

    last : n ≤ d → ⊥
    last l = let q : d ≡ n = omega arith in here q (rw (← q) at (or_cases (leb n 1) (not (eqb (p % n) 0)) (and_l (leb n 1 || not (eqb (p % n) 0)) (no_divisor n p) t)))

pub prime_by : (p : ℕ) → (ltb 1 p && no_divisor p p) ≡ true → Prime p
prime_by p t = record { large = ltb-true 1 p (and_l (ltb 1 p) (no_divisor p p) t); whole = λ d h k e. no_divisor_lem p p d (and_r (ltb 1 p) (no_divisor p p) t) h k e }

-- a test of every element of a list, by computation; then it holds of each that a search finds
abbrev pub all : (ℕ → Bool) → List ℕ → Bool
all f [] = true
all f (x ∷ xs) = f x && all f xs

pub all_in : (f : ℕ → Bool) (x : ℕ) (xs : List ℕ) → all f xs ≡ true → is_in x xs ≡ true → f x ≡ true
all_in f x [] t h = absurd (false≢true h)
all_in f x (y ∷ ys) t h =
    ⊎_elim (λ q. ap f (eqb-true x y q) ∙ and_l (f y) (all f ys) t) (λ q. all_in f x ys (and_r (f y) (all f ys) t) q) (or_cases (eqb x y) (is_in x ys) h)
