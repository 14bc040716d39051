-- Laws of finite sums; a sum over a permuted range.
use mathlib.Core.Path.{◌≡◌, refl, sym, ap, ap₂, ◌∙◌}
use mathlib.Core.Bool.{Bool, true, false, ◌||◌, not}
use mathlib.Core.Logic.{⊎_elim}
use Prim.Native.Nat.{ℕ, zero, suc, ◌+◌, ◌*◌, ◌≤◌, ◌<◌}
use native.Mathlib.Nat.{mul-add, add-zero, add-suc, zero-mul}
use native.Mathlib.Omega.{arith}
use lib.Dec.{eqb}
use borrow.Author.Tests.{eq-eqb, ne_eqb, eqb-true, not-true}
use Rattle.mathematics.proofs.Flags.{flag, and_i, and_l, and_r}
use Rattle.mathematics.proofs.OrderLaws.{lt_or_le}
use Rattle.mathematics.specs.Choice.{when}
use Rattle.mathematics.specs.Sums.{sum_to, all_to}

pub sum_zero : (f : ℕ → ℕ) → sum_to 0 f ≡ 0
unfolding sum_to
sum_zero f = refl

pub sum_suc : (n : ℕ) (f : ℕ → ℕ) → sum_to (suc n) f ≡ sum_to n f + f n
unfolding sum_to
sum_suc n f = refl

pub sum_ext : (n : ℕ) (f g : ℕ → ℕ) → ((i : ℕ) → i < n → f i ≡ g i) → sum_to n f ≡ sum_to n g
unfolding sum_to
sum_ext zero f g h = refl
sum_ext (suc n) f g h = ap₂ (λ (x y : ℕ). x + y) (sum_ext n f g (λ i l. h i (omega arith))) (h n (omega arith))

pub sum_add : (n : ℕ) (f g : ℕ → ℕ) → sum_to n (λ i. f i + g i) ≡ sum_to n f + sum_to n g
unfolding sum_to
sum_add zero f g = refl
sum_add (suc n) f g = omega (arith, sum_add n f g)

pub sum_scale : (n c : ℕ) (f : ℕ → ℕ) → sum_to n (λ i. c * f i) ≡ c * sum_to n f
unfolding sum_to
sum_scale zero c f = omega arith
sum_scale (suc n) c f = omega (arith, sum_scale n c f, mul-add c (sum_to n f) (f n))

pub sum_const : (n c : ℕ) → sum_to n (λ i. c) ≡ n * c
unfolding sum_to
sum_const zero c = omega arith
sum_const (suc n) c = omega (arith, sum_const n c)

pub sum_mono : (n : ℕ) (f g : ℕ → ℕ) → ((i : ℕ) → i < n → f i ≤ g i) → sum_to n f ≤ sum_to n g
unfolding sum_to
sum_mono zero f g h = omega arith
sum_mono (suc n) f g h = omega (arith, sum_mono n f g (λ i l. h i (omega arith)), h n (omega arith))

-- the order of two sums
pub sum_swap : (n m : ℕ) (f : ℕ → ℕ → ℕ) → sum_to n (λ i. sum_to m (f i)) ≡ sum_to m (λ j. sum_to n (λ i. f i j))
unfolding sum_to
sum_swap zero m f = sym (sum_const m 0 ∙ omega arith)
sum_swap (suc n) m f = ap (λ (x : ℕ). x + sum_to m (f n)) (sum_swap n m f) ∙ sym (sum_add m (λ j. sum_to n (λ i. f i j)) (f n))

-- all terms 0
pub sum_none : (n : ℕ) (f : ℕ → ℕ) → ((i : ℕ) → i < n → f i ≡ 0) → sum_to n f ≡ 0
sum_none n f h = sum_ext n f (λ i. 0) h ∙ sum_const n 0 ∙ omega arith

-- one term counts
pub sum_single : (n k : ℕ) (f : ℕ → ℕ) → k < n → ((i : ℕ) → i < n → (i ≡ k → ⊥) → f i ≡ 0) → sum_to n f ≡ f k
unfolding sum_to
sum_single zero k f h z = absurd (omega arith)
sum_single (suc n) k f h z =
    ⊎_elim
    (λ l. let e : f n ≡ 0 = z n (omega arith) (λ q. omega arith) in omega (arith, e, sum_single n k f l (λ i m q. z i (omega arith) q)))
    (λ l. let e : k ≡ n = omega arith in let y : sum_to n f ≡ 0 = sum_none n f (λ i m. z i (omega arith) (λ q. omega arith)) in omega (arith, y, ap f e))
    (lt_or_le k n)

-- one more flag holds than u says
pub sum_more : (n k : ℕ) (u : ℕ → Bool) → k < n → u k ≡ false → sum_to n (λ i. when (eqb i k || u i) 1) ≡ 1 + sum_to n (λ i. when (u i) 1)
sum_more n k u h e =
    sum_ext n (λ i. when (eqb i k || u i) 1) (λ i. when (eqb i k) 1 + when (u i) 1) (λ i l. apart i (eqb i k) refl)
    ∙ sum_add n (λ i. when (eqb i k) 1) (λ i. when (u i) 1)
    ∙ ap (λ (x : ℕ). x + sum_to n (λ i. when (u i) 1)) (sum_single n k (λ i. when (eqb i k) 1) h (λ i l q. ap (λ (b : Bool). when b 1) (ne_eqb i k q)) ∙ ap (λ (b : Bool). when b 1) (eq-eqb k k refl))
  where
    apart : (i : ℕ) (b : Bool) → eqb i k ≡ b → when (b || u i) 1 ≡ when b 1 + when (u i) 1
    apart i true q = ap (λ (t : Bool). 1 + when t 1) (sym (ap u (eqb-true i k q) ∙ e))
    apart i false q = omega arith

-- a range in two parts
pub sum_split : (n m : ℕ) (f : ℕ → ℕ) → sum_to (n + m) f ≡ sum_to n f + sum_to m (λ i. f (n + i))
unfolding sum_to
sum_split n zero f = ap (λ (x : ℕ). sum_to x f) (add-zero n) ∙ omega arith
sum_split n (suc m) f = ap (λ (x : ℕ). sum_to x f) (add-suc n m) ∙ omega (arith, sum_split n m f)

pub sum_first : (n : ℕ) (f : ℕ → ℕ) → sum_to (suc n) f ≡ f 0 + sum_to n (λ i. f (suc i))
unfolding sum_to
sum_first zero f = omega arith
sum_first (suc n) f = omega (arith, sum_first n f)

-- the numbers below m p, by quotient and remainder
pub sum_double : (m p : ℕ) (f : ℕ → ℕ) → sum_to (m * p) f ≡ sum_to m (λ c. sum_to p (λ r. f (c * p + r)))
unfolding sum_to
sum_double zero p f = ap (λ (x : ℕ). sum_to x f) (zero-mul p)
sum_double (suc m) p f =
    let e : suc m * p ≡ m * p + p = omega arith in
    ap (λ (x : ℕ). sum_to x f) e ∙ sum_split (m * p) p f ∙ ap (λ (x : ℕ). x + sum_to p (λ r. f (m * p + r))) (sum_double m p f)

-- a sum over a range that is permuted: each i below n is s j for just one j below n
module _ (n : ℕ) (s : ℕ → ℕ) (at : (i : ℕ) → i < n → (j : ℕ) × (j < n) × (s j ≡ i)) (one : (i j : ℕ) → i < n → j < n → s i ≡ s j → i ≡ j) (within : (j : ℕ) → j < n → s j < n) where
  hits : (i : ℕ) → i < n → sum_to n (λ j. when (eqb (s j) i) 1) ≡ 1
  hits i h =
      let w = at i h in
      sum_single n w.0 (λ j. when (eqb (s j) i) 1) w.1
      (λ j l q. ap (λ (b : Bool). when b 1) (ne_eqb (s j) i (λ e. q (one j w.0 l w.1 (e ∙ sym w.2)))))
      ∙ ap (λ (b : Bool). when b 1) (eq-eqb (s w.0) i w.2)

  term : (g : ℕ → ℕ) (b : Bool) (i : ℕ) → g i * when b 1 ≡ when b (g i)
  term g true i = omega arith
  term g false i = omega arith

  pick_one : (g : ℕ → ℕ) (j : ℕ) → j < n → sum_to n (λ i. g i * when (eqb (s j) i) 1) ≡ g (s j)
  pick_one g j h =
      sum_single n (s j) (λ i. g i * when (eqb (s j) i) 1) (within j h)
      (λ i l q. term g (eqb (s j) i) i ∙ ap (λ (b : Bool). when b (g i)) (ne_eqb (s j) i (λ e. q (sym e))))
      ∙ term g (eqb (s j) (s j)) (s j) ∙ ap (λ (b : Bool). when b (g (s j))) (eq-eqb (s j) (s j) refl)

  pub sum_permuted : (g : ℕ → ℕ) → sum_to n (λ j. g (s j)) ≡ sum_to n g
  sum_permuted g =
      sum_ext n (λ j. g (s j)) (λ j. sum_to n (λ i. g i * when (eqb (s j) i) 1)) (λ j l. sym (pick_one g j l))
      ∙ sum_swap n n (λ j i. g i * when (eqb (s j) i) 1)
      ∙ sum_ext n (λ i. sum_to n (λ j. g i * when (eqb (s j) i) 1)) g (λ i l. sum_scale n (g i) (λ j. when (eqb (s j) i) 1) ∙ ap (λ (x : ℕ). g i * x) (hits i l) ∙ omega arith)

-- no flag holds: as a sum, and as a test
pub none_all : (n : ℕ) (u : ℕ → Bool) → sum_to n (λ i. when (u i) 1) ≡ 0 → all_to n (λ i. not (u i)) ≡ true
unfolding sum_to all_to
none_all zero u e = refl
none_all (suc n) u e = and_i (all_to n (λ i. not (u i))) (not (u n)) (none_all n u (omega arith)) (last (u n) (omega arith))
  where
    last : (b : Bool) → when b 1 ≡ 0 → not b ≡ true
    last true q = absurd (omega arith)
    last false q = refl

pub all_none : (n : ℕ) (u : ℕ → Bool) → all_to n (λ i. not (u i)) ≡ true → sum_to n (λ i. when (u i) 1) ≡ 0
unfolding sum_to all_to
all_none zero u h = refl
all_none (suc n) u h =
    let last : u n ≡ false = not-true (u n) (and_r (all_to n (λ i. not (u i))) (not (u n)) h) in
    omega (arith, all_none n u (and_l (all_to n (λ i. not (u i))) (not (u n)) h), ap (λ (t : Bool). when t 1) last)

-- flags of which no two hold: at most one does, since where the last one holds the others do not
pub sum_one_most : (n : ℕ) (t : ℕ → Bool) → ((i j : ℕ) → i < n → j < n → t i ≡ true → t j ≡ true → i ≡ j) → sum_to n (λ i. when (t i) 1) ≤ 1
unfolding sum_to
sum_one_most zero t one = omega arith
sum_one_most (suc n) t one =
    ⊎_elim (λ e. last e) (λ e. omega (arith, ap (λ (b : Bool). when b 1) e, sum_one_most n t (λ i j l m q r. one i j (omega arith) (omega arith) q r))) (flag (t n))
  where
    lower : t n ≡ true → (i : ℕ) → i < n → (b : Bool) → t i ≡ b → when b 1 ≡ 0
    lower e i l true q = let same : i ≡ n = one i n (omega arith) (omega arith) q e in absurd (omega arith)
    lower e i l false q = refl

    last : t n ≡ true → sum_to n (λ i. when (t i) 1) + when (t n) 1 ≤ 1
    last e = omega (arith, ap (λ (b : Bool). when b 1) e, sum_none n (λ i. when (t i) 1) (λ i l. lower e i l (t i) refl))
