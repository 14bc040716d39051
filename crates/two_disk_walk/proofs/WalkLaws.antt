-- The walk to disk 0 after its first cell, and the walk from sums, from their parts one after
-- another.
use mathlib.Core.Path.{◌≡◌, sym, ap, ap₂, ◌∙◌}
use mathlib.Core.Logic.{⊎_elim}
use mathlib.Core.List.{List, ◌∷◌}
use Prim.Native.Nat.{ℕ, ◌+◌, ◌-◌, ◌*◌, ◌/◌, ◌%◌, ◌≤◌, ◌<◌}
use native.Mathlib.Nat.{mod-eq_of_lt}
use native.Mathlib.Omega.{arith}
use Rattle.liberation.specs.Sets.{place, row_set}
use Rattle.liberation.specs.Plans.{extra_row_on, diagonal_of}
use Rattle.liberation.specs.Stripes.Stripes.{solved}
use Rattle.liberation.specs.Stripes.Steps.{cell_step}
use Rattle.liberation.specs.TwoDisks.Pairs.{started, diagonal_walk, walked}
use Rattle.liberation.specs.TwoDisks.PairSteps.{walk_steps}
use Rattle.liberation.specs.TwoDisksBySums.Sums.{added_all, sum_started, sum_walked}
use Rattle.mathematics.proofs.Modulo.{mod_unique}
use Rattle.mathematics.proofs.OrderLaws.{lt_or_le}
use Rattle.parity_sets.proofs.NumberLaws.{half_even, half_odd}
use Rattle.two_disk_walk.proofs.WalkClauses.{walk_halves}

-- the other cell of the first cell's row, then the walk over the other rows
abbrev pub walked_on : ℕ → ℕ → ℕ → ℕ → List ℕ → List ℕ
walked_on p k s x u = diagonal_walk (2 * (p - 1)) p k s x 0 (extra_row_on p x) (solved s (place p (extra_row_on p x) 0) (row_set p k (extra_row_on p x)) u)

-- half of the rows after the extra cell's on x comes row x - 1: the walk goes back by x each time,
-- so by x × (p - 1)/2 in all, which is half of x forward
middle_even : (p x d h : ℕ) → p ≡ 2 * (d + h) + 1 → x ≡ h + h → 1 ≤ h → h - 1 + (2 * d + 1) * (d + h) ≡ p * d + (x - 1)
middle_even p x d h e f l =
    let b : x - 1 ≡ 2 * h - 1 = omega arith in
    omega arith ∙ sym (ap₂ (λ (i j : ℕ). i * d + j) e b)

middle_odd : (p x d h : ℕ) → p ≡ 2 * (d + h) + 1 → x ≡ h + h + 1 → h + (d + h) + 2 * d * (d + h) ≡ p * d + (x - 1)
middle_odd p x d h e f =
    let b : x - 1 ≡ 2 * h = omega arith in
    omega arith ∙ sym (ap₂ (λ (i j : ℕ). i * d + j) e b)

middle_is : (p x : ℕ) → p % 2 ≡ 1 → 1 ≤ x → x < p → (extra_row_on p x + (p - x) * ((p - 1) / 2)) % p ≡ x - 1
middle_is p x odd low high = ⊎_elim even odds (lt_or_le (x % 2) 1)
  where
    h : ℕ
    h = x / 2

    d : ℕ
    d = (p - 1) / 2 - h

    half : (p - 1) / 2 ≡ d + h
    half = omega arith

    wide : p ≡ 2 * (d + h) + 1
    wide = omega arith

    reach : (a b : ℕ) → extra_row_on p x ≡ a → p - x ≡ b → a + b * (d + h) ≡ p * d + (x - 1) → (extra_row_on p x + (p - x) * ((p - 1) / 2)) % p ≡ x - 1
    reach a b ea eb e =
        ap (λ (n : ℕ). n % p) (ap₂ (λ (i j : ℕ). i + j) ea (ap₂ (λ (i j : ℕ). i * j) eb half) ∙ e) ∙ mod_unique p d (x - 1) (omega arith)

    even : x % 2 < 1 → (extra_row_on p x + (p - x) * ((p - 1) / 2)) % p ≡ x - 1
    even z =
        let f : x ≡ h + h = omega arith in
        let m : p - x ≡ 2 * d + 1 = omega arith in
        reach (h - 1) (2 * d + 1) (ap (λ (n : ℕ). n - 1) (sym (half_even p x h odd high (sym f)))) m (middle_even p x d h wide f (omega arith))

    odds : 1 ≤ x % 2 → (extra_row_on p x + (p - x) * ((p - 1) / 2)) % p ≡ x - 1
    odds z =
        let f : x ≡ h + h + 1 = omega arith in
        let m : p - x ≡ 2 * d = omega arith in
        let n : h + (p + 1) / 2 - 1 ≡ h + (d + h) = omega arith in
        reach (h + (d + h)) (2 * d) (ap (λ (i : ℕ). i - 1) (sym (half_odd p x h odd high (sym f))) ∙ n) m (middle_odd p x d h wide f)

-- the walk comes in two halves; disk x is not disk 0, so the way to the second one is known
pub walk_done :
    (p k s x r : ℕ) (t u v w : List ℕ) → p % 2 ≡ 1 → 1 ≤ x → x < p → r < p → r ≡ extra_row_on p x
    → u ≡ solved s (place p r 0) (row_set p k r) t
    → v ≡ diagonal_walk (2 * ((p - 1) / 2)) p k s x 0 r u
    → w ≡ diagonal_walk (2 * ((p - 1) / 2)) p k s x 0 (x - 1) v
    → w ≡ walked_on p k s x t
walk_done p k s x r t u v w odd low high l er eu ev ew =
    walk_halves p k s x 0 r u v w odd (omega arith) l ev (ew ∙ ap (λ (i : ℕ). diagonal_walk (2 * ((p - 1) / 2)) p k s x 0 i v) (sym (ap₂ (λ (i j : ℕ). (i + j * ((p - 1) / 2)) % p) er way ∙ middle_is p x odd low high)))
    ∙ ap₂ (λ (i : ℕ) (m : List ℕ). diagonal_walk (2 * (p - 1)) p k s x 0 i m) er (eu ∙ ap (λ (i : ℕ). solved s (place p i 0) (row_set p k i) t) er)
  where
    way : diagonal_of p x 0 ≡ p - x
    way =
        let e : 0 + p - x ≡ p - x = omega arith in
        let b : p - x < p = omega arith in
        ap (λ (i : ℕ). i % p) e ∙ mod-eq_of_lt b

-- the first cell before them
pub walk_started : (p k s x : ℕ) (t u w : List ℕ) → u ≡ started p k s x 0 t → w ≡ walked_on p k s x u → w ≡ walked p k s x 0 t
unfolding walked
walk_started p k s x t u w eu ew = ew ∙ ap (walked_on p k s x) eu

-- the walk from sums: its start, the other cell of the first cell's row, the walk, the last steps
pub sums_done :
    (p k s x y r q : ℕ) (t u v w z : List ℕ) → r ≡ extra_row_on p x → q ≡ extra_row_on p y
    → u ≡ sum_started p k s x y t
    → v ≡ solved s (place p r x) (row_set p k r) u
    → w ≡ diagonal_walk p p k s x y r v
    → z ≡ added_all p k s x y (cell_step (place p q x) 0 q ∷ walk_steps ((p - 1) / 2 - 1) p x y q) w
    → z ≡ sum_walked p k s x y t
sums_done p k s x y r q t u v w z er eq eu ev ew ez =
    ez
    ∙ ap₂ (λ (i : ℕ) (l : List ℕ). added_all p k s x y (cell_step (place p i x) 0 i ∷ walk_steps ((p - 1) / 2 - 1) p x y i) l) eq
    (ew
    ∙ ap₂ (λ (i : ℕ) (l : List ℕ). diagonal_walk p p k s x y i l) er
    (ev ∙ ap₂ (λ (i : ℕ) (l : List ℕ). solved s (place p i x) (row_set p k i) l) er eu))
