-- Numbers round an odd or any width: a difference, and a half.
use mathlib.Core.Path.{◌≡◌, sym, ap, ◌∙◌}
use mathlib.Core.Logic.{⊎_elim}
use Prim.Native.Nat.{ℕ, ◌+◌, ◌-◌, ◌*◌, ◌/◌, ◌%◌, ◌≤◌, ◌<◌}
use native.Mathlib.Nat.{mod-eq_of_lt, mod-lt, div-add-mod}
use native.Mathlib.Omega.{arith}
use lib.Arith.{digits_div}
use lib.Dec.{eqb, ltb}
use borrow.Author.Tests.{lt-ltb, le-ltb, eq-eqb, ne_eqb}
use Rattle.mathematics.proofs.Modulo.{mod_unique}
use Rattle.mathematics.proofs.OrderLaws.{lt_or_le}
use Rattle.liberation.specs.Plans.{second_row, diagonal_of}

-- from the disk's row on, and before it
pub diagonal_after : (p f j : ℕ) → j < p → f ≤ j → j - f ≡ diagonal_of p f j
diagonal_after p f j h k =
    let e : j + p - f ≡ p * 1 + (j - f) = omega arith in
    sym (ap (λ (n : ℕ). n % p) e ∙ mod_unique p 1 (j - f) (omega arith))

pub diagonal_before : (p f j : ℕ) → f ≤ p → j < f → j + p - f ≡ diagonal_of p f j
diagonal_before p f j h k = sym (mod-eq_of_lt {n = j + p - f} {m = p} (omega arith))

-- the diagonal through disk x's cell of row r, and the row of its cell on disk y
pub numbered : (p x r i : ℕ) → 0 < p → i ≡ diagonal_of p x r → i < p
numbered p x r i h e = omega (arith, mod-lt (r + p - x) h)

pub next_below : (p i y j : ℕ) → 0 < p → j ≡ (i + y) % p → j < p
next_below p i y j h e = omega (arith, mod-lt (i + y) h)

pub next_is : (p x y r i j : ℕ) → i ≡ diagonal_of p x r → j ≡ (i + y) % p → j ≡ (diagonal_of p x r + y) % p
next_is p x y r i j e q = q ∙ ap (λ (n : ℕ). (n + y) % p) e

-- the half of an even number, and of an odd one
pub half_even : (p f h : ℕ) → p % 2 ≡ 1 → f < p → h + h ≡ f → h ≡ second_row p f
half_even p f h odd k e =
    let m = p / 2 in
    let d : (p + 1) / 2 ≡ m + 1 = omega arith in
    let q : p ≡ 2 * m + 1 = omega arith in
    let s : f * (m + 1) ≡ p * h + h = ap (λ (n : ℕ). n * (m + 1)) (sym e) ∙ omega arith ∙ ap (λ (n : ℕ). n * h + h) (sym q) in
    sym (ap (λ (n : ℕ). f * n % p) d ∙ ap (λ (n : ℕ). n % p) s ∙ mod_unique p h h (omega arith))

pub half_odd : (p f h : ℕ) → p % 2 ≡ 1 → f < p → h + h + 1 ≡ f → h + (p + 1) / 2 ≡ second_row p f
half_odd p f h odd k e =
    let m = p / 2 in
    let d : (p + 1) / 2 ≡ m + 1 = omega arith in
    let q : p ≡ 2 * m + 1 = omega arith in
    let s : f * (m + 1) ≡ p * h + (h + (m + 1)) = ap (λ (n : ℕ). n * (m + 1)) (sym e) ∙ omega arith ∙ ap (λ (n : ℕ). n * h + (h + (m + 1))) (sym q) in
    let b : h + (m + 1) < p = omega arith in
    sym (ap (λ (n : ℕ). f * n % p) d ∙ ap (λ (n : ℕ). n % p) s ∙ mod_unique p h (h + (m + 1)) b ∙ ap (λ (n : ℕ). h + n) (sym d))

-- the row of a diagonal's cell on disk 0
pub row_first : (p i : ℕ) → i < p → i ≡ (i + 0) % p
row_first p i h = let e : i + 0 ≡ i = omega arith in sym (ap (λ (n : ℕ). n % p) e ∙ mod-eq_of_lt h)

-- a cell before a disk's column, and one from its first cell on
pub disk_before : (p f x : ℕ) → x < f * p → x / p ≡ f → ⊥
disk_before p f x h e = absurd (omega (arith, div-add-mod x p, ap (λ (n : ℕ). p * n) e))

pub disk_from : (p f x : ℕ) → 0 < p → f * p ≤ x → ltb (x - f * p) p ≡ eqb (x / p) f
disk_from p f x some h = ⊎_elim (λ k. lt-ltb (x - f * p) p k ∙ sym (eq-eqb (x / p) f (here k))) (λ k. le-ltb (x - f * p) p k ∙ sym (ne_eqb (x / p) f (after k))) (lt_or_le (x - f * p) p)
  where
    here : x - f * p < p → x / p ≡ f
    here k =
        let e : x ≡ f * p + (x - f * p) = omega arith in
        ap (λ (n : ℕ). n / p) e ∙ digits_div f k

    after : p ≤ x - f * p → x / p ≡ f → ⊥
    after k e = absurd (omega (arith, div-add-mod x p, mod-lt x some, ap (λ (n : ℕ). p * n) e))

-- the row of a cell of the column
pub row_of : (p f x : ℕ) → x / p ≡ f → (f * p ≤ x) × (x - f * p ≡ x % p)
row_of p f x e =
    let d = div-add-mod x p in
    let m : p * (x / p) ≡ p * f = ap (λ (n : ℕ). p * n) e in
    (omega arith, omega arith)
