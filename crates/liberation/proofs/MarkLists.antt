-- Marks, a byte a cell, that stand for a list of cells: their number, the first of them, and one
-- cell more.
use mathlib.Core.Path.{◌≡◌, refl, sym, ap, ap₂, ◌∙◌}
use mathlib.Core.Bool.{Bool, ◌||◌}
use mathlib.Core.List.{List, [], ◌∷◌}
use Prim.Native.Nat.{ℕ, zero, suc, ◌+◌, ◌*◌, ◌≤◌, ◌<◌}
use native.Mathlib.Nat.{mul-le-mul}
use native.Mathlib.Omega.{arith}
use lib.ListN.{length, set, take, drop, replicate}
use borrow.Author.Tests.{eq-eqb, ne_eqb}
use Rattle.mathematics.specs.Choice.{when}
use Rattle.mathematics.specs.Lists.{is_in}
use Rattle.liberation.specs.Plans.{marks_from}

pub length_marks : (n i : ℕ) (ys : List ℕ) → length (marks_from n i ys) ≡ n
unfolding marks_from
length_marks zero i ys = refl
length_marks (suc n) i ys = ap suc (length_marks n (suc i) ys)

-- no cell is marked
pub no_cells : (n i : ℕ) → replicate n 0 ≡ marks_from n i []
unfolding marks_from
no_cells zero i = refl
no_cells (suc n) i = ap (λ (l : List ℕ). 0 ∷ l) (no_cells n (suc i))

-- the first n marks
pub take_marks : (n k i : ℕ) (ys : List ℕ) → n ≤ k → take n (marks_from k i ys) ≡ marks_from n i ys
unfolding marks_from
take_marks zero k i ys h = refl
take_marks (suc n) zero i ys h = absurd (omega arith)
take_marks (suc n) (suc k) i ys h = ap (λ (l : List ℕ). when (is_in i ys) 1 ∷ l) (take_marks n k (suc i) ys (omega arith))

-- the marks after the first m
pub drop_marks : (m n i : ℕ) (ys : List ℕ) → drop m (marks_from (m + n) i ys) ≡ marks_from n (i + m) ys
unfolding marks_from
drop_marks zero n i ys = let e : i ≡ i + 0 = omega arith in let z : 0 + n ≡ n = omega arith in ap₂ (λ (x y : ℕ). marks_from x y ys) z e
drop_marks (suc m) n i ys =
    let e : suc i + m ≡ i + suc m = omega arith in
    let z : suc m + n ≡ suc (m + n) = omega arith in
    ap (λ (x : ℕ). drop (suc m) (marks_from x i ys)) z ∙ drop_marks m n (suc i) ys ∙ ap (λ (x : ℕ). marks_from n x ys) e

-- an array of k data disks has no more cells than the widest
pub cells_most : (p k : ℕ) → p ≤ 31 → k ≤ p → p * (k + 2) ≤ 1023
cells_most p k h n = let l : k + 2 ≤ 33 = omega arith in mul-le-mul h l

-- a mark written: the cell joins ys
same_from : (n i y : ℕ) (ys : List ℕ) → y < i → marks_from n i (y ∷ ys) ≡ marks_from n i ys
unfolding marks_from
same_from zero i y ys h = refl
same_from (suc n) i y ys h = ap₂ (λ (k : ℕ) (l : List ℕ). k ∷ l) (ap (λ (b : Bool). when (b || is_in i ys) 1) (ne_eqb i y (λ e. omega arith))) (same_from n (suc i) y ys (omega arith))

pub mark_set : (n i x : ℕ) (ys : List ℕ) → x < n → set (marks_from n i ys) x 1 ≡ marks_from n i ((i + x) ∷ ys)
unfolding marks_from
mark_set zero i x ys h = absurd (omega arith)
mark_set (suc n) i zero ys h =
    let e : i ≡ i + 0 = omega arith in
    sym (ap₂ (λ (k : ℕ) (l : List ℕ). k ∷ l) (ap (λ (b : Bool). when (b || is_in i ys) 1) (eq-eqb i (i + 0) e)) (same_from n (suc i) (i + 0) ys (omega arith)))
mark_set (suc n) i (suc x) ys h =
    let e : suc i + x ≡ i + suc x = omega arith in
    ap₂ (λ (k : ℕ) (l : List ℕ). k ∷ l)
    (sym (ap (λ (b : Bool). when (b || is_in i ys) 1) (ne_eqb i (i + suc x) (λ q. omega arith))))
    (mark_set n (suc i) x ys (omega arith) ∙ ap (λ (k : ℕ). marks_from n (suc i) (k ∷ ys)) e)

-- marks depend only on what the list of cells holds
pub marks_same : (n i : ℕ) (ys zs : List ℕ) → ((x : ℕ) → is_in x ys ≡ is_in x zs) → marks_from n i ys ≡ marks_from n i zs
unfolding marks_from
marks_same zero i ys zs h = refl
marks_same (suc n) i ys zs h = ap₂ (λ (k : ℕ) (l : List ℕ). k ∷ l) (ap (λ (b : Bool). when b 1) (h i)) (marks_same n (suc i) ys zs h)
