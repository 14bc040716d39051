-- Members of a list: the first and the later ones, the bound of a member, a distinct list one
-- longer, a distinct list of all numbers below n, and lists tested equal.
use mathlib.Core.Path.{◌≡◌, refl, ap, ap₂, ◌∙◌}
use mathlib.Core.Bool.{true, false, ◌||◌, not, or-false, false≢true}
use mathlib.Core.Logic.{⊎_elim}
use mathlib.Core.List.{List, [], ◌∷◌, ◌++◌}
use Prim.Native.Nat.{ℕ, zero, suc, ◌<◌}
use native.Mathlib.Omega.{arith}
use lib.Dec.{eqb, ltb}
use lib.ListN.{length, get_or}
use borrow.Author.Tests.{eqb-true, eq-eqb, ltb-true, not-true}
use Rattle.mathematics.specs.Choice.{when}
use Rattle.mathematics.specs.Lists.{is_in, distinct, all_below, same}
use Rattle.mathematics.proofs.Flags.{flag, and_l, and_r, and_i, or_cases, or_l, or_r, or_false_l, or_false_r}
use Rattle.mathematics.proofs.ChoiceLaws.{when_most}
use Rattle.mathematics.proofs.ListLaws.{is_in_append, count_distinct}
use Rattle.mathematics.proofs.SumLaws.{sum_const, sum_mono, sum_more}
use Rattle.mathematics.proofs.TestLaws.{eqb_sym}

pub in_head : (x : ℕ) (xs : List ℕ) → is_in x (x ∷ xs) ≡ true
in_head x xs = or_l (eqb x x) (is_in x xs) (eq-eqb x x refl)

pub in_tail : (x y : ℕ) (xs : List ℕ) → is_in x xs ≡ true → is_in x (y ∷ xs) ≡ true
in_tail x y xs h = or_r (eqb x y) (is_in x xs) h

-- what stands in a list is in it
pub at_in : (i : ℕ) (xs : List ℕ) → i < length xs → is_in (get_or xs i 0) xs ≡ true
at_in i [] h = absurd (omega arith)
at_in zero (x ∷ xs) h = in_head x xs
at_in (suc i) (x ∷ xs) h = in_tail (get_or xs i 0) x xs (at_in i xs (omega arith))

pub in_below : (n x : ℕ) (xs : List ℕ) → all_below n xs ≡ true → is_in x xs ≡ true → x < n
in_below n x [] b h = absurd (false≢true h)
in_below n x (y ∷ ys) b h =
    ⊎_elim
    (λ e. omega (arith, eqb-true x y e, ltb-true y n (and_l (ltb y n) (all_below n ys) b)))
    (λ e. in_below n x ys (and_r (ltb y n) (all_below n ys) b) e)
    (or_cases (eqb x y) (is_in x ys) h)

pub distinct_snoc : (y : ℕ) (xs : List ℕ) → distinct xs ≡ true → is_in y xs ≡ false → distinct (xs ++ (y ∷ [])) ≡ true
distinct_snoc y [] d n = refl
distinct_snoc y (x ∷ xs) d n =
    and_i (not (is_in x (xs ++ (y ∷ [])))) (distinct (xs ++ (y ∷ [])))
    (ap not (is_in_append x xs (y ∷ []) ∙ ap₂ ◌||◌ (not-true (is_in x xs) (and_l (not (is_in x xs)) (distinct xs) d)) (or-false (eqb x y) ∙ eqb_sym x y ∙ or_false_l (eqb y x) (is_in y xs) n)))
    (distinct_snoc y xs (and_r (not (is_in x xs)) (distinct xs) d) (or_false_r (eqb y x) (is_in y xs) n))

pub same_true : (xs ys : List ℕ) → same xs ys ≡ true → xs ≡ ys
same_true [] [] h = refl
same_true [] (y ∷ ys) h = absurd (false≢true h)
same_true (x ∷ xs) [] h = absurd (false≢true h)
same_true (x ∷ xs) (y ∷ ys) h =
    ap₂ (λ (a : ℕ) (l : List ℕ). a ∷ l) (eqb-true x y (and_l (eqb x y) (same xs ys) h)) (same_true xs ys (and_r (eqb x y) (same xs ys) h))

pub same_self : (xs : List ℕ) → same xs xs ≡ true
same_self [] = refl
same_self (x ∷ xs) = and_i (eqb x x) (same xs xs) (eq-eqb x x refl) (same_self xs)

-- n different numbers below n are all of them
pub distinct_full : (n : ℕ) (ys : List ℕ) → distinct ys ≡ true → all_below n ys ≡ true → length ys ≡ n → (x : ℕ) → x < n → is_in x ys ≡ true
distinct_full n ys d b e x l = ⊎_elim (λ t. t) (λ t. absurd (missing t)) (flag (is_in x ys))
  where
    missing : is_in x ys ≡ false → ⊥
    missing t =
        omega (
          arith,
          count_distinct n ys d b,
          sum_more n x (λ y. is_in y ys) l t,
          sum_mono n (λ y. when (eqb y x || is_in y ys) 1) (λ y. 1) (λ y m. when_most (eqb y x || is_in y ys)),
          sum_const n 1,
        )
