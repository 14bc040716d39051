-- Lists of which some numbers are kept, those that a test does not leave out: joined lists,
-- members, bounds, lengths, tests that agree.
use mathlib.Core.Path.{◌≡◌, refl, sym, ap, ap₂, ◌∙◌}
use mathlib.Core.Bool.{Bool, true, false, ◌&&◌, ◌||◌, not, and-false}
use mathlib.Core.List.{List, [], ◌∷◌, ◌++◌}
use Prim.Native.Nat.{ℕ, suc, ◌≤◌}
use native.Mathlib.Omega.{arith}
use lib.Dec.{eqb, ltb}
use lib.ListN.{length}
use borrow.Author.Tests.{eqb-true}
use Rattle.mathematics.specs.Choice.{pick}
use Rattle.mathematics.specs.Lists.{is_in, all_below}
use Rattle.mathematics.proofs.Flags.{and_l, and_r, and_i}
use Rattle.mathematics.proofs.MemberLaws.{in_head, in_tail}

-- the numbers of a list but those that are gone
pub record Keeps (gone : ℕ → Bool) (kept : List ℕ → List ℕ) : Type 0 where
  pub none : kept [] ≡ []
  pub next : (x : ℕ) (xs : List ℕ) → kept (x ∷ xs) ≡ pick (gone x) (kept xs) (x ∷ kept xs)

all_keeps : Keeps (λ x. false) (λ xs. xs)
all_keeps = record { none = refl; next = λ x xs. refl }

-- one test after another
pub both_keep : {g h : ℕ → Bool} {a b : List ℕ → List ℕ} → Keeps g a → Keeps h b → Keeps (λ x. h x || g x) (λ xs. a (b xs))
both_keep {g} {h} {a} {b} k l = record { none = ap a l.none ∙ k.none; next = λ x xs. ap a (l.next x xs) ∙ go x (b xs) (h x) }
  where
    go : (x : ℕ) (ys : List ℕ) (t : Bool) → a (pick t ys (x ∷ ys)) ≡ pick (t || g x) (a ys) (x ∷ a ys)
    go x ys true = refl
    go x ys false = k.next x ys

pub kept_append : {gone : ℕ → Bool} {kept : List ℕ → List ℕ} → Keeps gone kept → (xs ys : List ℕ) → kept (xs ++ ys) ≡ kept xs ++ kept ys
kept_append {gone} {kept} k [] ys = ap (λ (l : List ℕ). l ++ kept ys) (sym k.none)
kept_append {gone} {kept} k (x ∷ xs) ys = k.next x (xs ++ ys) ∙ go (gone x) (kept_append k xs ys) ∙ ap (λ (l : List ℕ). l ++ kept ys) (sym (k.next x xs))
  where
    go : (b : Bool) → kept (xs ++ ys) ≡ kept xs ++ kept ys → pick b (kept (xs ++ ys)) (x ∷ kept (xs ++ ys)) ≡ pick b (kept xs) (x ∷ kept xs) ++ kept ys
    go true e = e
    go false e = ap (λ (l : List ℕ). x ∷ l) e

-- a number is kept if it is in the list and not gone
pub in_kept : {gone : ℕ → Bool} {kept : List ℕ → List ℕ} → Keeps gone kept → (x : ℕ) (xs : List ℕ) → is_in x (kept xs) ≡ (not (gone x) && is_in x xs)
in_kept {gone} k x [] = ap (is_in x) k.none ∙ sym (and-false (not (gone x)))
in_kept {gone} {kept} k x (y ∷ ys) = ap (is_in x) (k.next y ys) ∙ go (gone y) (eqb x y) refl refl (in_kept k x ys)
  where
    own : (b : Bool) → gone y ≡ b → eqb x y ≡ true → gone x ≡ b
    own b d e = ap gone (eqb-true x y e) ∙ d

    go : (b t : Bool) → gone y ≡ b → eqb x y ≡ t → is_in x (kept ys) ≡ (not (gone x) && is_in x ys) → is_in x (pick b (kept ys) (y ∷ kept ys)) ≡ (not (gone x) && (t || is_in x ys))
    go true true d e rest = rest ∙ ap (λ (b : Bool). not b && is_in x ys) (own true d e) ∙ ap (λ (b : Bool). not b && true) (sym (own true d e))
    go true false d e rest = rest
    go false true d e rest = ap (λ (b : Bool). b || is_in x (kept ys)) e ∙ sym (ap (λ (b : Bool). not b && true) (own false d e))
    go false false d e rest = ap (λ (b : Bool). b || is_in x (kept ys)) e ∙ rest

-- those of numbers below n are below n
pub kept_below : {gone : ℕ → Bool} {kept : List ℕ → List ℕ} → Keeps gone kept → (n : ℕ) (xs : List ℕ) → all_below n xs ≡ true → all_below n (kept xs) ≡ true
kept_below k n [] h = ap (all_below n) k.none
kept_below {gone} {kept} k n (x ∷ xs) h = ap (all_below n) (k.next x xs) ∙ go (gone x) (kept_below k n xs (and_r (ltb x n) (all_below n xs) h))
  where
    go : (b : Bool) → all_below n (kept xs) ≡ true → all_below n (pick b (kept xs) (x ∷ kept xs)) ≡ true
    go true e = e
    go false e = and_i (ltb x n) (all_below n (kept xs)) (and_l (ltb x n) (all_below n xs) h) e

-- there are no more of them
pub kept_short : {gone : ℕ → Bool} {kept : List ℕ → List ℕ} → Keeps gone kept → (xs : List ℕ) → length (kept xs) ≤ length xs
kept_short k [] = omega (arith, ap length k.none)
kept_short {gone} {kept} k (x ∷ xs) = go (gone x) (k.next x xs) (kept_short k xs)
  where
    go : (b : Bool) → kept (x ∷ xs) ≡ pick b (kept xs) (x ∷ kept xs) → length (kept xs) ≤ length xs → length (kept (x ∷ xs)) ≤ suc (length xs)
    go true e h = omega (arith, ap length e)
    go false e h = omega (arith, ap length e)

-- two tests that agree on the numbers of a list keep the same of them
pub kept_same : {g h : ℕ → Bool} {a b : List ℕ → List ℕ} → Keeps g a → Keeps h b → (xs : List ℕ) → ((x : ℕ) → is_in x xs ≡ true → g x ≡ h x) → a xs ≡ b xs
kept_same k l [] f = k.none ∙ sym l.none
kept_same {g} {h} {a} {b} k l (x ∷ xs) f =
    k.next x xs
    ∙ ap₂ (λ (t : Bool) (ys : List ℕ). pick t ys (x ∷ ys)) (f x (in_head x xs)) (kept_same k l xs (λ y i. f y (in_tail y x xs i)))
    ∙ sym (l.next x xs)

-- none is gone
pub kept_all : {gone : ℕ → Bool} {kept : List ℕ → List ℕ} → Keeps gone kept → (xs : List ℕ) → ((x : ℕ) → is_in x xs ≡ true → gone x ≡ false) → kept xs ≡ xs
kept_all k xs f = kept_same k all_keeps xs f
