-- A test of every number below n: it says what its flag says of each, and holds if each holds; the
-- same for a loop that makes the tests one by one.
use mathlib.Core.Path.{◌≡◌, refl, sym, ap, ap₂, ◌∙◌}
use mathlib.Core.Bool.{Bool, true, false, ◌&&◌, not}
use mathlib.Core.Logic.{⊎_elim}
use Prim.Native.Nat.{ℕ, zero, suc, ◌+◌, ◌<◌}
use native.Mathlib.Numerals.{add-one}
use native.Mathlib.Omega.{arith}
use borrow.Author.Tests.{not-true, not-false}
use Rattle.mathematics.specs.Sums.{all_to}
use Rattle.mathematics.proofs.Flags.{and_l, and_r, and_i, flag, clash}
use Rattle.mathematics.proofs.OrderLaws.{lt_or_le}

pub all_at : (n : ℕ) (f : ℕ → Bool) → all_to n f ≡ true → (i : ℕ) → i < n → f i ≡ true
unfolding all_to
all_at zero f h i l = absurd (omega arith)
all_at (suc n) f h i l =
    ⊎_elim (λ m. all_at n f (and_l (all_to n f) (f n) h) i m) (λ m. let e : i ≡ n = omega arith in ap f e ∙ and_r (all_to n f) (f n) h) (lt_or_le i n)

pub all_of_lem : (n : ℕ) (f : ℕ → Bool) → ((i : ℕ) → i < n → f i ≡ true) → all_to n f ≡ true
unfolding all_to
all_of_lem zero f h = refl
all_of_lem (suc n) f h = and_i (all_to n f) (f n) (all_of_lem n f (λ i l. h i (omega arith))) (h n (omega arith))

-- A loop that tests f 0, f 1, .. up to the first that fails; r is the answer of a test.
pub all_start : (f : ℕ → Bool) → all_to 0 f ≡ true
unfolding all_to
all_start f = refl

pub all_more : (n : ℕ) (f : ℕ → Bool) (r : Bool) → all_to n f ≡ true → r ≡ f n → not r ≡ false → all_to (n + 1) f ≡ true
unfolding all_to
all_more n f r h e k = ap (λ (m : ℕ). all_to m f) (add-one n) ∙ and_i (all_to n f) (f n) h (sym e ∙ not-false r k)

-- one that fails
pub all_fails : (n i : ℕ) (f : ℕ → Bool) (r : Bool) → i < n → r ≡ f i → not r ≡ true → all_to n f ≡ false
all_fails n i f r h e k = ⊎_elim (λ q. clash (f i) (all_at n f q i h) (sym e ∙ not-true r k)) (λ q. q) (flag (all_to n f))

-- tests that agree
pub all_same : (n : ℕ) {f g : ℕ → Bool} → ((i : ℕ) → i < n → f i ≡ g i) → all_to n f ≡ all_to n g
unfolding all_to
all_same zero h = refl
all_same (suc n) h = ap₂ ◌&&◌ (all_same n (λ i l. h i (omega arith))) (h n (omega arith))

-- the last is passed
pub all_seen : (n i : ℕ) (f : ℕ → Bool) → i ≡ n → all_to i f ≡ true → all_to n f ≡ true
all_seen n i f e h = sym (ap (λ (m : ℕ). all_to m f) e) ∙ h
