-- Sums of bits: they are added term by term, two of them may be exchanged, and a term that stands
-- alone is the sum.
use mathlib.Core.Path.{◌≡◌, refl, sym, ap, ap₂, ◌∙◌}
use mathlib.Core.Bool.{Bool, true, false, ◌&&◌, ◌||◌, not}
use mathlib.Core.Logic.{⊎_elim}
use mathlib.Core.List.{List, [], ◌∷◌, ◌++◌}
use Prim.Native.Nat.{ℕ, zero, suc, ◌<◌}
use native.Mathlib.Omega.{arith}
use lib.Dec.{eqb}
use borrow.Author.Tests.{eqb-true, not-true}
use Rattle.mathematics.specs.Lists.{is_in, distinct}
use Rattle.mathematics.proofs.Flags.{and_l, and_r}
use Rattle.mathematics.proofs.OrderLaws.{lt_or_le}
use Rattle.mathematics.specs.BitRows.Parity.{differ, odd_to, odd_in}

-- ---- two truth values
pub differ_self : (a : Bool) → differ a a ≡ false
differ_self true = refl
differ_self false = refl

pub differ_false : (a : Bool) → differ a false ≡ a
differ_false true = refl
differ_false false = refl

pub differ_twice : (a b : Bool) → differ a (differ a b) ≡ b
differ_twice true true = refl
differ_twice true false = refl
differ_twice false b = refl

-- two that do not differ are the same
pub differ_none : (a b : Bool) → differ a b ≡ false → a ≡ b
differ_none true true e = refl
differ_none true false e = e
differ_none false b e = sym e

pub differ_cross : (a b c d : Bool) → differ (differ a b) (differ c d) ≡ differ (differ a c) (differ b d)
differ_cross true true true d = refl
differ_cross true true false true = refl
differ_cross true true false false = refl
differ_cross true false true true = refl
differ_cross true false true false = refl
differ_cross true false false d = refl
differ_cross false true true d = refl
differ_cross false true false d = refl
differ_cross false false true d = refl
differ_cross false false false d = refl

pub differ_assoc : (a b c : Bool) → differ a (differ b c) ≡ differ (differ a b) c
differ_assoc true true true = refl
differ_assoc true true false = refl
differ_assoc true false c = refl
differ_assoc false b c = refl

pub differ_and : (a b c : Bool) → (differ a b && c) ≡ differ (a && c) (b && c)
differ_and true true true = refl
differ_and true true false = refl
differ_and true false c = sym (differ_false c)
differ_and false b c = refl

-- ---- those of [0, n)
pub to_ext : (n : ℕ) (f g : ℕ → Bool) → ((i : ℕ) → i < n → f i ≡ g i) → odd_to n f ≡ odd_to n g
unfolding odd_to
to_ext zero f g h = refl
to_ext (suc n) f g h = ap₂ differ (h n (omega arith)) (to_ext n f g (λ i l. h i (omega arith)))

pub to_none : (n : ℕ) (f : ℕ → Bool) → ((i : ℕ) → i < n → f i ≡ false) → odd_to n f ≡ false
unfolding odd_to
to_none zero f h = refl
to_none (suc n) f h = ap₂ differ (h n (omega arith)) (to_none n f (λ i l. h i (omega arith)))

pub to_add : (n : ℕ) (f g : ℕ → Bool) → odd_to n (λ i. differ (f i) (g i)) ≡ differ (odd_to n f) (odd_to n g)
unfolding odd_to
to_add zero f g = refl
to_add (suc n) f g = ap (differ (differ (f n) (g n))) (to_add n f g) ∙ differ_cross (f n) (g n) (odd_to n f) (odd_to n g)

-- a factor
pub to_and : (n : ℕ) (f : ℕ → Bool) (c : Bool) → odd_to n (λ i. f i && c) ≡ (odd_to n f && c)
unfolding odd_to
to_and zero f c = refl
to_and (suc n) f c = ap (differ (f n && c)) (to_and n f c) ∙ sym (differ_and (f n) (odd_to n f) c)

-- all terms but one are false
pub to_one : (n k : ℕ) (f : ℕ → Bool) → k < n → ((i : ℕ) → i < n → (i ≡ k → ⊥) → f i ≡ false) → odd_to n f ≡ f k
unfolding odd_to
to_one zero k f h z = absurd (omega arith)
to_one (suc n) k f h z =
    ⊎_elim
    (λ l. ap₂ differ (z n (omega arith) (λ q. omega arith)) (to_one n k f l (λ i m q. z i (omega arith) q)))
    (λ l. let e : n ≡ k = omega arith in ap₂ differ (ap f e) (to_none n f (λ i m. z i (omega arith) (λ q. omega arith))) ∙ differ_false (f k))
    (lt_or_le k n)

-- ---- those of a list
pub in_ext : (f g : ℕ → Bool) (xs : List ℕ) → ((x : ℕ) → f x ≡ g x) → odd_in f xs ≡ odd_in g xs
unfolding odd_in
in_ext f g [] h = refl
in_ext f g (x ∷ xs) h = ap₂ differ (h x) (in_ext f g xs h)

pub in_none : (xs : List ℕ) → odd_in (λ x. false) xs ≡ false
unfolding odd_in
in_none [] = refl
in_none (x ∷ xs) = in_none xs

pub in_add : (f g : ℕ → Bool) (xs : List ℕ) → odd_in (λ x. differ (f x) (g x)) xs ≡ differ (odd_in f xs) (odd_in g xs)
unfolding odd_in
in_add f g [] = refl
in_add f g (x ∷ xs) = ap (differ (differ (f x) (g x))) (in_add f g xs) ∙ differ_cross (f x) (g x) (odd_in f xs) (odd_in g xs)

pub in_and : (f : ℕ → Bool) (c : Bool) (xs : List ℕ) → odd_in (λ x. c && f x) xs ≡ (c && odd_in f xs)
in_and f true xs = refl
in_and f false xs = in_none xs

pub in_append : (f : ℕ → Bool) (xs ys : List ℕ) → odd_in f (xs ++ ys) ≡ differ (odd_in f xs) (odd_in f ys)
unfolding odd_in
in_append f [] ys = refl
in_append f (x ∷ xs) ys = ap (differ (f x)) (in_append f xs ys) ∙ differ_assoc (f x) (odd_in f xs) (odd_in f ys)

-- both sums in either order
pub swap : (n : ℕ) (f : ℕ → ℕ → Bool) (xs : List ℕ) → odd_in (λ x. odd_to n (λ i. f i x)) xs ≡ odd_to n (λ i. odd_in (f i) xs)
unfolding odd_to
swap zero f xs = in_none xs
swap (suc n) f xs = in_add (f n) (λ x. odd_to n (λ i. f i x)) xs ∙ ap (differ (odd_in (f n) xs)) (swap n f xs)

-- how often x stands in a list without repetitions
pub in_distinct : (x : ℕ) (xs : List ℕ) → distinct xs ≡ true → odd_in (eqb x) xs ≡ is_in x xs
unfolding odd_in
in_distinct x [] d = refl
in_distinct x (y ∷ ys) d = ap (differ (eqb x y)) (in_distinct x ys (and_r (not (is_in y ys)) (distinct ys) d)) ∙ go (eqb x y) refl
  where
    go : (b : Bool) → eqb x y ≡ b → differ b (is_in x ys) ≡ (b || is_in x ys)
    go true e = ap not (ap (λ (z : ℕ). is_in z ys) (eqb-true x y e) ∙ not-true (is_in y ys) (and_l (not (is_in y ys)) (distinct ys) d))
    go false e = refl
