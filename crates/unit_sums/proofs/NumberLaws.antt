-- Numbers as bytes, the lowest first: how the library stores and compares them, and that eight bytes
-- determine a number of 64 bits.
use mathlib.Core.Path.{◌≡◌, refl, sym, ap, ◌∙◌}
use mathlib.Core.Bool.{Bool, ◌&&◌}
use mathlib.Core.List.{List, [], ◌∷◌}
use Prim.Native.Nat.{ℕ, zero, suc, ◌/◌, ◌%◌, ◌^◌, ◌<◌}
use native.Mathlib.Omega.{arith}
use lib.Dec.{eqb}
use lib.ListN.{length, get_or, drop}
use mir.Syntax.{w32, w64}
use Rattle.std.specs.Int.{bytes_low_first, to_le_bytes}
use Rattle.std.specs.Cmp.Lexicographic.{pointwise}
use Rattle.std.proofs.Math.Nat.{div-div-eq-div-mul, pow-suc}
use Rattle.mathematics.specs.Lists.{same}
use Rattle.unit_sums.specs.Sums.{little_endian}

pub length_little : (n x : ℕ) → length (little_endian n x) ≡ n
unfolding little_endian
length_little zero x = refl
length_little (suc n) x = ap suc (length_little n (x / 256))

-- what `to_le_bytes` gives
bytes_from : (k i n : ℕ) → bytes_low_first (suc i) k n ≡ little_endian k (n / 256 ^ suc i)
unfolding little_endian
bytes_from zero i n = refl
bytes_from (suc k) i n =
    let e : n / 256 ^ suc (suc i) ≡ n / 256 ^ suc i / 256 = sym (div-div-eq-div-mul n (256 ^ suc i) 256 ∙ ap (λ (m : ℕ). n / m) (sym (pow-suc 256 (suc i)))) in
    ap (λ (l : List ℕ). n / 256 ^ suc i % 256 ∷ l) (bytes_from k (suc i) n ∙ ap (little_endian k) e)

pub four_bytes : (n : ℕ) → to_le_bytes w32 n ≡ little_endian 4 n
unfolding little_endian
four_bytes n = ap (λ (l : List ℕ). n % 256 ∷ l) (bytes_from 3 0 n)

pub eight_bytes : (n : ℕ) → to_le_bytes w64 n ≡ little_endian 8 n
unfolding little_endian
eight_bytes n = ap (λ (l : List ℕ). n % 256 ∷ l) (bytes_from 7 0 n)

-- what `==` of two slices gives
pub same_slices : (xs ys : List ℕ) → pointwise eqb xs ys ≡ same xs ys
same_slices [] [] = refl
same_slices [] (y ∷ ys) = refl
same_slices (x ∷ xs) [] = refl
same_slices (x ∷ xs) (y ∷ ys) = ap (λ (b : Bool). eqb x y && b) (same_slices xs ys)

-- numbers of n bytes that have the same bytes
pub little_same : (n x y : ℕ) → x < 256 ^ n → y < 256 ^ n → little_endian n x ≡ little_endian n y → x ≡ y
unfolding little_endian
little_same zero x y hx hy e = omega arith
little_same (suc n) x y hx hy e =
    let a : x % 256 ≡ y % 256 = ap (λ (l : List ℕ). get_or l 0 0) e in
    let b : x / 256 ≡ y / 256 = little_same n (x / 256) (y / 256) (omega (arith, hx)) (omega (arith, hy)) (ap (λ (l : List ℕ). drop 1 l) e) in
    omega arith
