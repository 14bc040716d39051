-- The first place where a row of numbers is greatest: it is one of the places, and nowhere is the
-- row greater.
use mathlib.Core.Path.{◌≡◌, sym, ap, ap₂, ◌∙◌}
use mathlib.Core.Bool.{Bool, true, false}
use mathlib.Core.Logic.{⊎_elim}
use Prim.Native.Nat.{ℕ, zero, suc, ◌+◌, ◌≤◌, ◌<◌}
use native.Mathlib.Omega.{arith}
use lib.Dec.{ltb}
use borrow.Author.Tests.{ltb-true, ltb-false, lt-ltb, le-ltb}
use Rattle.mathematics.specs.Choice.{pick}
use Rattle.mathematics.proofs.Flags.{flag}
use Rattle.mathematics.proofs.OrderLaws.{eq_or_lt}
use Rattle.liberation.specs.FewestPlan.Greatest.{better, first_most}

-- the better of two
module _ (s : ℕ → ℕ) (a b : ℕ) where
  later : ltb (s a) (s b) ≡ true → better s a b ≡ b
  later t = ap (λ (x : Bool). pick x b a) t

  kept : ltb (s a) (s b) ≡ false → better s a b ≡ a
  kept t = ap (λ (x : Bool). pick x b a) t

  better_first : s a ≤ s (better s a b)
  better_first = ⊎_elim (λ t. omega (arith, ltb-true (s a) (s b) t, ap s (later t))) (λ t. omega (arith, ap s (kept t))) (flag (ltb (s a) (s b)))

  better_second : s b ≤ s (better s a b)
  better_second = ⊎_elim (λ t. omega (arith, ap s (later t))) (λ t. omega (arith, ltb-false (s a) (s b) t, ap s (kept t))) (flag (ltb (s a) (s b)))

  better_within : (n : ℕ) → 0 < a → a ≤ n → 0 < b → b ≤ n → (0 < better s a b) × (better s a b ≤ n)
  better_within n la ha lb hb = ⊎_elim (λ t. (omega (arith, later t), omega (arith, later t))) (λ t. (omega (arith, kept t), omega (arith, kept t))) (flag (ltb (s a) (s b)))

pub most_within : (n : ℕ) (s : ℕ → ℕ) → (0 < first_most n s) × (first_most n s ≤ suc n)
unfolding first_most
most_within zero s = (omega arith, omega arith)
most_within (suc n) s = let w = most_within n s in better_within s (first_most n s) (suc (suc n)) (suc (suc n)) w.0 (omega (arith, w.1)) (omega arith) (omega arith)

pub most_greatest : (n : ℕ) (s : ℕ → ℕ) (g : ℕ) → 0 < g → g ≤ suc n → s g ≤ s (first_most n s)
unfolding first_most
most_greatest zero s g l h = let e : g ≡ 1 = omega arith in omega (arith, ap s e)
most_greatest (suc n) s g l h =
    ⊎_elim
    (λ e. omega (arith, ap s e, better_second s (first_most n s) (suc (suc n))))
    (λ m. omega (arith, most_greatest n s g l (omega arith), better_first s (first_most n s) (suc (suc n))))
    (eq_or_lt g (suc (suc n)) h)

-- one place more, as a loop tells it: it is greater there, or not
next_most : (n : ℕ) (s : ℕ → ℕ) (a b : ℕ) → a ≡ first_most n s → b ≡ n + 2 → better s a b ≡ first_most (n + 1) s
unfolding first_most
next_most n s a b ea eb =
    let e : b ≡ suc (suc n) = omega arith in
    let m : suc n ≡ n + 1 = omega arith in
    ap₂ (λ (x y : ℕ). better s x y) ea e ∙ ap (λ (x : ℕ). first_most x s) m

pub most_more : (n : ℕ) (s : ℕ → ℕ) (a b : ℕ) → a ≡ first_most n s → b ≡ n + 2 → s a < s b → b ≡ first_most (n + 1) s
most_more n s a b ea eb l = sym (later s a b (lt-ltb (s a) (s b) l)) ∙ next_most n s a b ea eb

pub most_same : (n : ℕ) (s : ℕ → ℕ) (a b : ℕ) → a ≡ first_most n s → b ≡ n + 2 → s b ≤ s a → a ≡ first_most (n + 1) s
most_same n s a b ea eb l = sym (kept s a b (le-ltb (s a) (s b) l)) ∙ next_most n s a b ea eb
