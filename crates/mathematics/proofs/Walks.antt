-- A walk over consecutive numbers: a list that has one number for each of them. Its length, its
-- elements, its last element apart, a bound.
use mathlib.Core.Path.{◌≡◌, sym, ap, ap₂, ◌∙◌}
use mathlib.Core.Bool.{true}
use mathlib.Core.List.{List, [], ◌∷◌, ◌++◌}
use Prim.Native.Nat.{ℕ, zero, suc, ◌+◌, ◌<◌}
use native.Mathlib.Omega.{arith}
use lib.ListN.{length, get_or}
use borrow.Author.Tests.{lt-ltb}
use Rattle.mathematics.specs.Lists.{all_below}
use Rattle.mathematics.proofs.Flags.{and_i}

-- l n c are the numbers f c to f (c + n - 1)
pub record Walk (f : ℕ → ℕ) (l : ℕ → ℕ → List ℕ) : Type 0 where
  pub none : (c : ℕ) → l 0 c ≡ []
  pub next : (n c : ℕ) → l (suc n) c ≡ f c ∷ l n (suc c)

module _ {f : ℕ → ℕ} {l : ℕ → ℕ → List ℕ} (w : Walk f l) where
  pub walk_long : (n c : ℕ) → length (l n c) ≡ n
  walk_long zero c = ap length (w.none c)
  walk_long (suc n) c = ap length (w.next n c) ∙ ap suc (walk_long n (suc c))

  pub walk_at : (n c i : ℕ) → i < n → get_or (l n c) i 0 ≡ f (c + i)
  walk_at zero c i h = absurd (omega arith)
  walk_at (suc n) c zero h = let e : c ≡ c + 0 = omega arith in ap (λ (xs : List ℕ). get_or xs 0 0) (w.next n c) ∙ ap f e
  walk_at (suc n) c (suc i) h = let e : suc c + i ≡ c + suc i = omega arith in ap (λ (xs : List ℕ). get_or xs (suc i) 0) (w.next n c) ∙ walk_at n (suc c) i (omega arith) ∙ ap f e

  -- the last one apart
  pub walk_last : (n c : ℕ) → l (suc n) c ≡ l n c ++ (f (c + n) ∷ [])
  walk_last zero c = let e : c ≡ c + 0 = omega arith in w.next 0 c ∙ ap₂ (λ (y : ℕ) (ys : List ℕ). f y ∷ ys) e (w.none (suc c)) ∙ ap (λ (ys : List ℕ). ys ++ (f (c + 0) ∷ [])) (sym (w.none c))
  walk_last (suc n) c =
      let e : suc c + n ≡ c + suc n = omega arith in
      w.next (suc n) c
      ∙ ap (λ (ys : List ℕ). f c ∷ ys) (walk_last n (suc c) ∙ ap (λ (y : ℕ). l n (suc c) ++ (f y ∷ [])) e)
      ∙ ap (λ (ys : List ℕ). ys ++ (f (c + suc n) ∷ [])) (sym (w.next n c))

  -- where each number is below m
  pub walk_below : (m n c : ℕ) → ((d : ℕ) → d < c + n → f d < m) → all_below m (l n c) ≡ true
  walk_below m zero c h = ap (all_below m) (w.none c)
  walk_below m (suc n) c h = ap (all_below m) (w.next n c) ∙ and_i _ _ (lt-ltb (f c) m (h c (omega arith))) (walk_below m n (suc c) (λ d k. h d (omega arith)))
