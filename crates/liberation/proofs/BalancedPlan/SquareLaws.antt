-- Squares modulo a prime p: products of squares, negatives of squares, and which numbers have one
-- square.
-- All is said of roots. Two numbers have one square only if they are equal or their sum is 0 mod p:
-- else their sum can be divided out.
use mathlib.Core.Path.{◌≡◌, refl, sym, ap, ◌∙◌}
use mathlib.Core.Bool.{true, false, ◌||◌, false≢true}
use mathlib.Core.Logic.{⊎_elim}
use Prim.Native.Nat.{ℕ, zero, suc, ◌+◌, ◌-◌, ◌*◌, ◌/◌, ◌%◌, ◌≤◌, ◌<◌}
use native.Mathlib.Nat.{mod-lt, mod-mod, mod-eq_of_lt, mod_self, mul-add-mod_self_left, add-mod-mod, add-mod_right}
use native.Mathlib.Omega.{arith}
use lib.Dec.{eqb}
use borrow.Author.Tests.{eqb-true, eq-eqb}
use Rattle.mathematics.proofs.Flags.{flag, or_cases, or_l, or_r, same_flag}
use Rattle.mathematics.proofs.Modulo.{mul_mod, cong_add, cong_mul}
use Rattle.mathematics.proofs.OrderLaws.{lt_or_le, eq_or_lt}
use Rattle.mathematics.proofs.Primes.{Prime, inverse, cancel, add_cancel}
use Rattle.liberation.specs.BalancedPlan.Squares.{square_to, is_square}

-- what is taken away from r mod p and added again
pub sub_back : (p a r : ℕ) → a ≤ p → (a + (r + p - a) % p) % p ≡ r % p
sub_back p a r h = let q : a + (r + p - a) ≡ r + p = omega arith in add-mod-mod a (r + p - a) p ∙ ap (λ (x : ℕ). x % p) q ∙ add-mod_right r p

-- a number from 1 to n has its square among those
root_in : (n p y : ℕ) → 1 ≤ y → y ≤ n → square_to n p (y * y % p) ≡ true
unfolding square_to
root_in zero p y a b = absurd (omega arith)
root_in (suc n) p y a b = ⊎_elim here (λ l. or_r (eqb (y * y % p) (suc n * suc n % p)) (square_to n p (y * y % p)) (root_in n p y a (omega arith))) (eq_or_lt y (suc n) b)
  where
    here : y ≡ suc n → (eqb (y * y % p) (suc n * suc n % p) || square_to n p (y * y % p)) ≡ true
    here e = or_l (eqb (y * y % p) (suc n * suc n % p)) (square_to n p (y * y % p)) (eq-eqb (y * y % p) (suc n * suc n % p) (ap (λ (x : ℕ). x * x % p) e))

-- and each of those is one's square
root_of : (n p x : ℕ) → square_to n p x ≡ true → (y : ℕ) × (1 ≤ y) × (y ≤ n) × (x ≡ y * y % p)
unfolding square_to
root_of zero p x h = absurd (false≢true h)
root_of (suc n) p x h =
    ⊎_elim
    (λ e. (suc n, omega arith, omega arith, eqb-true x (suc n * suc n % p) e))
    (λ e. let w = root_of n p x e in (w.0, w.1, omega (arith, w.2), w.3))
    (or_cases (eqb x (suc n * suc n % p)) (square_to n p x) h)

pub root : (p x : ℕ) → is_square p x ≡ true → (y : ℕ) × (1 ≤ y) × (y ≤ p - 1) × (x ≡ y * y % p)
unfolding is_square
root p x h = root_of (p - 1) p x h

-- p - y has the square of y
pub mirror : (p y : ℕ) → y ≤ p → (p - y) * (p - y) % p ≡ y * y % p
mirror p y h = with_rest (p - y) (omega arith)
  where
    with_rest : (z : ℕ) → z + y ≡ p → z * z % p ≡ y * y % p
    with_rest z e =
        sym (mul-add-mod_self_left p y (z * z))
        ∙ ap (λ (x : ℕ). x % p) (omega (arith, ap (λ (x : ℕ). x * y) e, ap (λ (x : ℕ). x * z) e))
        ∙ mul-add-mod_self_left p z (y * y)

-- the square of a number that p does not divide
pub square_of : (p y : ℕ) → 0 < p → (y % p ≡ 0 → ⊥) → is_square p (y * y % p) ≡ true
unfolding is_square
square_of p y h n =
    let l : y % p < p = mod-lt y h in
    ap (square_to (p - 1) p) (mul_mod y y p) ∙ root_in (p - 1) p (y % p) (omega arith) (omega arith)

module _ (p : ℕ) (ok : Prime p) where
  some : 0 < p
  some = omega (arith, ok.large)

  -- no zero divisors
  pub not_zero : (a b : ℕ) → (a % p ≡ 0 → ⊥) → (b % p ≡ 0 → ⊥) → a * b % p ≡ 0 → ⊥
  not_zero a b n m e =
      let l : a % p < p = mod-lt a some in
      m (cancel p ok (a % p) b 0 (omega arith) l (cong_mul p (a % p) a b b (mod-mod a p) refl ∙ e ∙ sym (ap (λ (x : ℕ). x % p) (omega arith) ∙ mod-eq_of_lt some)) ∙ mod-eq_of_lt some)

  -- a root is no multiple of p
  root_small : (x : ℕ) (h : is_square p x ≡ true) → (root p x h).0 % p ≡ 0 → ⊥
  root_small x h e = let a = root p x h in omega (arith, a.1, mod-eq_of_lt {n = a.0} {m = p} (omega (arith, a.2, some)))

  -- 0 is no square
  pub square_zero : is_square p 0 ≡ false
  square_zero = ⊎_elim (λ h. absurd (not_zero (root p 0 h).0 (root p 0 h).0 (root_small 0 h) (root_small 0 h) (sym (root p 0 h).3))) (λ h. h) (flag (is_square p 0))

  -- a product of two squares
  pub square_times : (x y : ℕ) → is_square p x ≡ true → is_square p y ≡ true → is_square p (x * y % p) ≡ true
  square_times x y h k =
      let a = root p x h in
      let b = root p y k in
      ap (is_square p) (cong_mul p x (a.0 * a.0) y (b.0 * b.0) (ap (λ (z : ℕ). z % p) a.3 ∙ mod-mod (a.0 * a.0) p) (ap (λ (z : ℕ). z % p) b.3 ∙ mod-mod (b.0 * b.0) p) ∙ ap (λ (z : ℕ). z % p) (omega arith))
      ∙ square_of p (a.0 * b.0) some (not_zero a.0 b.0 (root_small x h) (root_small y k))

  -- x and y are negatives of one another: where -1 is a square, y is one if x is
  pub square_turned : (x y : ℕ) → y < p → (x + y) % p ≡ 0 → is_square p (p - 1) ≡ true → is_square p x ≡ true → is_square p y ≡ true
  square_turned x y l e i h = sym (ap (is_square p) (same (p - 1) (omega (arith, some)))) ∙ square_times (p - 1) x i h
    where
      -- m x is -x
      same : (m : ℕ) → m + 1 ≡ p → m * x % p ≡ y
      same m q =
          add_cancel p x (m * x) y some (ap (λ (z : ℕ). z % p) (omega (arith, ap (λ (z : ℕ). z * x) q)) ∙ mul-add-mod_self_left p x 0 ∙ mod-eq_of_lt some ∙ sym e)
          ∙ mod-eq_of_lt l

  -- where both are squares, -1 is one
  pub square_apart : (x y : ℕ) → (x + y) % p ≡ 0 → is_square p x ≡ true → is_square p y ≡ true → is_square p (p - 1) ≡ true
  square_apart x y e h k = go (root p x h).0 (root p y k).0 (root p x h).3 (root p y k).3 (root_small x h) (root_small y k)
    where
      go : (b c : ℕ) → x ≡ b * b % p → y ≡ c * c % p → (b % p ≡ 0 → ⊥) → (c % p ≡ 0 → ⊥) → is_square p (p - 1) ≡ true
      go b c xb yc nb nc = let l : b % p < p = mod-lt b some in let v = inverse p ok (b % p) (omega arith) l in with_inverse v.0 (cong_mul p b (b % p) v.0 v.0 (sym (mod-mod b p)) refl ∙ v.1)
        where
          with_inverse : (v : ℕ) → b * v % p ≡ 1 → is_square p (p - 1) ≡ true
          with_inverse v o = ap (is_square p) (sym minus) ∙ square_of p (c * v) some (not_zero c v nc (λ q. omega (arith, o, cong_mul p b b v 0 refl (q ∙ sym (mod-eq_of_lt some)), mod-eq_of_lt {n = b * 0} {m = p} (omega (arith, some)))))
            where
              -- 1 + (c v)² is (b² + c²) v²
              sum : (1 + c * v * (c * v)) % p ≡ 0
              sum =
                  cong_add p 1 (b * v * (b * v)) (c * v * (c * v)) (c * v * (c * v)) (sym (cong_mul p (b * v) 1 (b * v) 1 (o ∙ sym (mod-eq_of_lt ok.large)) (o ∙ sym (mod-eq_of_lt ok.large)))) refl
                  ∙ ap (λ (z : ℕ). z % p) (omega arith)
                  ∙ cong_mul p (b * b + c * c) 0 (v * v) (v * v) (cong_add p (b * b) x (c * c) y (sym (ap (λ (z : ℕ). z % p) xb ∙ mod-mod (b * b) p)) (sym (ap (λ (z : ℕ). z % p) yc ∙ mod-mod (c * c) p)) ∙ e ∙ sym (mod-eq_of_lt some)) refl
                  ∙ ap (λ (z : ℕ). z % p) (omega arith)
                  ∙ mod-eq_of_lt some

              minus : c * v * (c * v) % p ≡ p - 1
              minus =
                  let whole : 1 + (p - 1) ≡ p = omega (arith, some) in
                  add_cancel p 1 (c * v * (c * v)) (p - 1) some (sum ∙ sym (ap (λ (z : ℕ). z % p) whole ∙ mod_self p)) ∙ mod-eq_of_lt (omega (arith, some))

  -- two numbers whose sum p does not divide have one square only if they agree
  pub root_once : (a b : ℕ) → ((a + b) % p ≡ 0 → ⊥) → a * a % p ≡ b * b % p → a % p ≡ b % p
  root_once a b n e =
      let l : (a + b) % p < p = mod-lt (a + b) some in
      cancel p ok ((a + b) % p) a b (omega arith) l (sum_times_each a ∙ ap (λ (z : ℕ). z % p) (omega arith) ∙ cong_add p (a * a) (b * b) (a * b) (a * b) e refl ∙ ap (λ (z : ℕ). z % p) (omega arith) ∙ sym (sum_times_each b))
    where
      sum_times_each : (x : ℕ) → (a + b) % p * x % p ≡ (a + b) * x % p
      sum_times_each x = cong_mul p ((a + b) % p) (a + b) x x (mod-mod (a + b) p) refl

  -- the squares of 1 to (p - 1)/2 are all squares, since y or p - y is one of these
  pub half_all : p % 2 ≡ 1 → (x : ℕ) → is_square p x ≡ square_to ((p - 1) / 2) p x
  unfolding is_square
  half_all odd x = same_flag (square_to (p - 1) p x) (square_to ((p - 1) / 2) p x) there back
    where
      there : square_to (p - 1) p x ≡ true → square_to ((p - 1) / 2) p x ≡ true
      there h =
          let w = root_of (p - 1) p x h in
          let low = w.1 in
          let high = w.2 in
          ap (square_to ((p - 1) / 2) p) w.3
          ∙ ⊎_elim
          (λ l. ap (square_to ((p - 1) / 2) p) (sym (mirror p w.0 (omega arith))) ∙ root_in ((p - 1) / 2) p (p - w.0) (omega (arith, some)) (omega arith))
          (λ l. root_in ((p - 1) / 2) p w.0 low l)
          (lt_or_le ((p - 1) / 2) w.0)

      back : square_to ((p - 1) / 2) p x ≡ true → square_to (p - 1) p x ≡ true
      back h =
          let w = root_of ((p - 1) / 2) p x h in
          let high = w.2 in
          ap (square_to (p - 1) p) w.3 ∙ root_in (p - 1) p w.0 w.1 (omega arith)
