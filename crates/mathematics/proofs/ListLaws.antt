-- Lists as sets: what `union` holds, that it stays distinct, and the length of a distinct list as a
-- count.
use mathlib.Core.Path.{◌≡◌, refl, sym, ap, ◌∙◌}
use mathlib.Core.Bool.{Bool, true, false, ◌||◌, not, or_assoc}
use mathlib.Core.List.{List, [], ◌∷◌, ◌++◌, append-nil}
use Prim.Native.Nat.{ℕ, zero, suc, ◌+◌, ◌≤◌, ◌<◌}
use native.Mathlib.Numerals.{add-one}
use native.Mathlib.Omega.{arith}
use lib.Dec.{eqb, ltb}
use lib.ListN.{length, get_or, take, drop, set, replicate, length-append, length-drop, length-replicate}
use lib.Seq.{drop-cons, set_at, drop-length, take-take}
use borrow.Author.Tests.{eqb-true, ltb-true, not-true}
use Rattle.mathematics.proofs.Flags.{and_l, and_r, and_i}
use Rattle.mathematics.specs.Choice.{pick, when}
use Rattle.mathematics.specs.Sums.{sum_to}
use Rattle.mathematics.specs.Lists.{is_in, union, distinct, all_below}
use Rattle.mathematics.proofs.SumLaws.{sum_none, sum_more}

pub is_in_append : (x : ℕ) (xs ys : List ℕ) → is_in x (xs ++ ys) ≡ (is_in x xs || is_in x ys)
is_in_append x [] ys = refl
is_in_append x (y ∷ xs) ys = ap (λ (b : Bool). eqb x y || b) (is_in_append x xs ys) ∙ sym (or_assoc (eqb x y) (is_in x xs) (is_in x ys))

pub below_append : (n : ℕ) (xs ys : List ℕ) → all_below n xs ≡ true → all_below n ys ≡ true → all_below n (xs ++ ys) ≡ true
below_append n [] ys h k = k
below_append n (x ∷ xs) ys h k = and_i (ltb x n) (all_below n (xs ++ ys)) (and_l (ltb x n) (all_below n xs) h) (below_append n xs ys (and_r (ltb x n) (all_below n xs) h) k)

-- membership in what is added
pub is_in_added : (x : ℕ) (xs ys : List ℕ) → is_in x (union xs ys) ≡ (is_in x xs || is_in x ys)
unfolding union
is_in_added x [] ys = refl
is_in_added x (z ∷ xs) ys = is_in_added x xs (pick (is_in z ys) ys (z ∷ ys)) ∙ ap (λ (b : Bool). is_in x xs || b) (once (is_in z ys) refl) ∙ turn (is_in x xs) (eqb x z) (is_in x ys)
  where
    turn : (a b c : Bool) → (a || (b || c)) ≡ ((b || a) || c)
    turn true true c = refl
    turn true false c = refl
    turn false true c = refl
    turn false false c = refl

    same : is_in z ys ≡ true → (e : Bool) → eqb x z ≡ e → is_in x ys ≡ (e || is_in x ys)
    same t true e = ap (λ (k : ℕ). is_in k ys) (eqb-true x z e) ∙ t
    same t false e = refl

    once : (b : Bool) → is_in z ys ≡ b → is_in x (pick b ys (z ∷ ys)) ≡ (eqb x z || is_in x ys)
    once true t = same t (eqb x z) refl
    once false t = refl

pub distinct_added : (xs ys : List ℕ) → distinct ys ≡ true → distinct (union xs ys) ≡ true
unfolding union
distinct_added [] ys d = d
distinct_added (x ∷ xs) ys d = distinct_added xs (pick (is_in x ys) ys (x ∷ ys)) (go (is_in x ys) refl)
  where
    go : (b : Bool) → is_in x ys ≡ b → distinct (pick b ys (x ∷ ys)) ≡ true
    go true t = d
    go false t = and_i (not (is_in x ys)) (distinct ys) (ap not t) d

pub below_added : (n : ℕ) (xs ys : List ℕ) → all_below n xs ≡ true → all_below n ys ≡ true → all_below n (union xs ys) ≡ true
unfolding union
below_added n [] ys h k = k
below_added n (x ∷ xs) ys h k = below_added n xs (pick (is_in x ys) ys (x ∷ ys)) (and_r (ltb x n) (all_below n xs) h) (go (is_in x ys))
  where
    go : (b : Bool) → all_below n (pick b ys (x ∷ ys)) ≡ true
    go true = k
    go false = and_i (ltb x n) (all_below n ys) (and_l (ltb x n) (all_below n xs) h) k

-- a distinct list's length is the number of its elements
pub count_distinct : (n : ℕ) (ys : List ℕ) → distinct ys ≡ true → all_below n ys ≡ true → length ys ≡ sum_to n (λ x. when (is_in x ys) 1)
count_distinct n [] d b = sym (sum_none n (λ x. 0) (λ i l. refl))
count_distinct n (y ∷ ys) d b =
    let rest : length ys ≡ sum_to n (λ x. when (is_in x ys) 1) = count_distinct n ys (and_r (not (is_in y ys)) (distinct ys) d) (and_r (ltb y n) (all_below n ys) b) in
    omega (arith, sum_more n y (λ x. is_in x ys) (ltb-true y n (and_l (ltb y n) (all_below n ys) b)) (not-true (is_in y ys) (and_l (not (is_in y ys)) (distinct ys) d)))

-- an element of a list whose elements are all below n
pub below_at : (n i : ℕ) (xs : List ℕ) → all_below n xs ≡ true → i < length xs → get_or xs i 0 < n
below_at n i [] b h = absurd (omega arith)
below_at n zero (x ∷ xs) b h = ltb-true x n (and_l (ltb x n) (all_below n xs) b)
below_at n (suc i) (x ∷ xs) b h = below_at n i xs (and_r (ltb x n) (all_below n xs) b) (omega arith)

pub take_replicate : (n m v : ℕ) → n ≤ m → take n (replicate m v) ≡ replicate n v
take_replicate zero m v h = refl
take_replicate (suc n) zero v h = absurd (omega arith)
take_replicate (suc n) (suc m) v h = ap (λ (l : List ℕ). v ∷ l) (take_replicate n m v (omega arith))

-- Clearing a list from the front: i zeros, then the rest of d as it was.
replicate_front : (n v : ℕ) (ys : List ℕ) → replicate n v ++ (v ∷ ys) ≡ v ∷ (replicate n v ++ ys)
replicate_front zero v ys = refl
replicate_front (suc n) v ys = ap (λ (l : List ℕ). v ∷ l) (replicate_front n v ys)

-- A loop that sets a list to zeros: the first i are, those behind are as they were.
pub clear_turn : (l d : List ℕ) (i : ℕ) → i < length d → l ≡ replicate i 0 ++ drop i d → set l i 0 ≡ replicate (i + 1) 0 ++ drop (i + 1) d
clear_turn l d i h e =
    ap (λ (x : List ℕ). set x i 0) (e ∙ ap (λ (x : List ℕ). replicate i 0 ++ x) (drop-cons d i 0 h))
    ∙ set_at (replicate i 0) (get_or d i 0) (drop (suc i) d) 0 i (length-replicate i 0)
    ∙ replicate_front i 0 (drop (suc i) d)
    ∙ ap (λ (n : ℕ). replicate n 0 ++ drop n d) (sym (add-one i))

pub clear_end : (l d : List ℕ) (i : ℕ) → i ≡ length d → l ≡ replicate i 0 ++ drop i d → l ≡ replicate (length d) 0
clear_end l d i q e = e ∙ ap (λ (n : ℕ). replicate n 0 ++ drop n d) q ∙ ap (λ (x : List ℕ). replicate (length d) 0 ++ x) (drop-length d) ∙ append-nil (replicate (length d) 0)

pub length_clear : (l d : List ℕ) (i : ℕ) → i ≤ length d → l ≡ replicate i 0 ++ drop i d → length l ≡ length d
length_clear l d i h e = ap length e ∙ length-append (replicate i 0) (drop i d) ∙ omega (arith, length-replicate {A = ℕ} i 0, length-drop i d)

-- a part that lies within the front
pub part_front : (a n b : ℕ) (t : List ℕ) → a + n ≤ b → take n (drop a (take b t)) ≡ take n (drop a t)
part_front zero n b t h = take-take n b t (omega arith)
part_front (suc a) n zero t h = absurd (omega arith)
part_front (suc a) n (suc b) [] h = refl
part_front (suc a) n (suc b) (x ∷ t) h = part_front a n b t (omega arith)
