-- Finite sums over a range that is turned round: shifted mod p, reversed, reflected mod p; sums
-- with a factor, sums with one term marked, and 0/1 of two flags.
-- A map of [0, n) with an inverse there leaves a sum as it is, and a reflection is a reversal
-- followed by a shift.
use mathlib.Core.Path.{◌≡◌, refl, sym, ap, ◌∙◌}
use mathlib.Core.Bool.{Bool, true, false, ◌&&◌, ◌||◌, not}
use Prim.Native.Nat.{ℕ, ◌+◌, ◌-◌, ◌*◌, ◌%◌, ◌<◌}
use native.Mathlib.Nat.{mod-lt, mod_self, mod-eq_of_lt, mod-add-mod, add-mod-mod, add_comm, mul_comm}
use native.Mathlib.Omega.{arith}
use lib.Dec.{eqb}
use borrow.Author.Tests.{eq-eqb, ne_eqb}
use Rattle.mathematics.proofs.SumLaws.{sum_ext, sum_scale, sum_single, sum_permuted}
use Rattle.mathematics.specs.Choice.{when}
use Rattle.mathematics.specs.Sums.{sum_to}

-- s and back undo one another on [0, n)
pub sum_inverse :
    (n : ℕ) (s back : ℕ → ℕ)
    → ((j : ℕ) → j < n → s j < n)
    → ((i : ℕ) → i < n → back i < n)
    → ((i : ℕ) → i < n → s (back i) ≡ i)
    → ((j : ℕ) → j < n → back (s j) ≡ j)
    → (g : ℕ → ℕ)
    → sum_to n (λ j. g (s j)) ≡ sum_to n g
sum_inverse n s back within inside there here g =
    sum_permuted n s (λ i l. (back i, inside i l, there i l)) (λ i j l m e. sym (here i l) ∙ ap back e ∙ here j m) within g

-- backwards
pub sum_reversed : (n : ℕ) (g : ℕ → ℕ) → sum_to n (λ r. g (n - 1 - r)) ≡ sum_to n g
sum_reversed n g = sum_inverse n (λ r. n - 1 - r) (λ r. n - 1 - r) (λ j l. omega arith) (λ i l. omega arith) (λ i l. omega arith) (λ j l. omega arith) g

-- a shift by a, then by b, where p divides a + b
pub shift_back : (p a b x : ℕ) → x < p → (a + b) % p ≡ 0 → ((x + a) % p + b) % p ≡ x
shift_back p a b x l e =
    mod-add-mod (x + a) p b
    ∙ ap (λ (y : ℕ). y % p) (omega arith)
    ∙ sym (add-mod-mod x (a + b) p)
    ∙ ap (λ (y : ℕ). (x + y) % p) e
    ∙ ap (λ (y : ℕ). y % p) (omega arith)
    ∙ mod-eq_of_lt l

-- begun at a, going round p
pub sum_shifted : (p a : ℕ) → 0 < p → (g : ℕ → ℕ) → sum_to p (λ j. g ((j + a) % p)) ≡ sum_to p g
sum_shifted p a h g =
    sum_inverse p (λ j. (j + a) % p) (λ i. (i + b) % p) (λ j l. mod-lt (j + a) h) (λ i l. mod-lt (i + b) h) (λ i l. shift_back p b a i l (ap (λ (y : ℕ). y % p) (add_comm b a) ∙ whole)) (λ j l. shift_back p a b j l whole) g
  where
    b : ℕ
    b = p - a % p

    whole : (a + b) % p ≡ 0
    whole = let l : a % p < p = mod-lt a h in sym (mod-add-mod a p b) ∙ ap (λ (y : ℕ). y % p) (omega arith) ∙ mod_self p

-- downwards from r, going round p
pub sum_reflected : (p r : ℕ) → 0 < p → (g : ℕ → ℕ) → sum_to p (λ c. g ((r + p - c) % p)) ≡ sum_to p g
sum_reflected p r h g =
    sum_ext p (λ c. g ((r + p - c) % p)) (λ c. g ((p - 1 - c + (r + 1)) % p)) (λ c l. let e : r + p - c ≡ p - 1 - c + (r + 1) = omega arith in ap (λ (y : ℕ). g (y % p)) e)
    ∙ sum_reversed p (λ x. g ((x + (r + 1)) % p))
    ∙ sum_shifted p (r + 1) h g

-- a factor on the right
pub sum_times : (n c : ℕ) (f : ℕ → ℕ) → sum_to n (λ i. f i * c) ≡ sum_to n f * c
sum_times n c f = sum_ext n (λ i. f i * c) (λ i. c * f i) (λ i l. mul_comm (f i) c) ∙ sum_scale n c f ∙ mul_comm c (sum_to n f)

-- a product of two sums
pub sum_product : (n m : ℕ) (f g : ℕ → ℕ) → sum_to n (λ i. sum_to m (λ j. f i * g j)) ≡ sum_to n f * sum_to m g
sum_product n m f g = sum_ext n (λ i. sum_to m (λ j. f i * g j)) (λ i. f i * sum_to m g) (λ i l. sum_scale m (f i) g) ∙ sum_times n (sum_to m g) f

-- only the term at k
pub sum_at : (n k : ℕ) (f : ℕ → ℕ) → k < n → sum_to n (λ i. when (eqb i k) (f i)) ≡ f k
sum_at n k f h =
    sum_single n k (λ i. when (eqb i k) (f i)) h (λ i l q. ap (λ (b : Bool). when b (f i)) (ne_eqb i k q)) ∙ ap (λ (b : Bool). when b (f k)) (eq-eqb k k refl)

-- 0/1 of two flags
pub when_and : (a b : Bool) → when (a && b) 1 ≡ when a 1 * when b 1
when_and true b = omega arith
when_and false b = omega arith

pub when_or : (a b : Bool) → when (a || b) 1 + when (a && b) 1 ≡ when a 1 + when b 1
when_or true b = omega arith
when_or false b = omega arith

-- the second counts only where the first fails
pub when_else : (a b : Bool) → when (a || b) 1 ≡ when a 1 + when (b && not a) 1
when_else true true = refl
when_else true false = refl
when_else false true = refl
when_else false false = refl
