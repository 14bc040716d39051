-- The cents of a charge are off it by half a cent at most, so no others are nearer. Others as near
-- are off by just half a cent, and of two such numbers, which follow each other, just one is even.
use mathlib.Core.Path.{◌≡◌, refl, subst}
use mathlib.Core.Bool.{Bool, true, false}
use mathlib.Core.Logic.{◌⊎◌, inl, inr, ⊎_elim}
use Prim.Native.Nat.{ℕ, ◌+◌, ◌*◌, ◌/◌, ◌%◌, ◌^◌, ◌≤◌, ◌<◌}
use native.Mathlib.Nat.{mod-lt, div-add-mod', mul-add-mod_self_right}
use native.Mathlib.Omega.{arith}
use lib.Dec.{eqb, ltb}
use borrow.Author.Tests.{eqb-true, eqb-false, ltb-true, ltb-false}
use Rattle.mathematics.specs.Choice.{pick}
use Rattle.mathematics.proofs.OrderLaws.{lt_or_le, eq_or_lt}
use Rattle.billing.specs.Cents.{gib, even_of, nearest, apart, Nearest}

-- an exact half is the rest
half_rest : (c m : ℕ) → 2 * c ≡ (2 * m + 1) * gib → c % gib ≡ 2 ^ 29
half_rest c m h = let e : c ≡ m * gib + 2 ^ 29 = omega arith in rw e (mul-add-mod_self_right m gib (2 ^ 29))

even_is : (q : ℕ) → even_of q % 2 ≡ 0
even_is q = go (eqb (q % 2) 0) refl
  where
    go : (t : Bool) → eqb (q % 2) 0 ≡ t → pick t q (q + 1) % 2 ≡ 0
    go true e = eqb-true (q % 2) 0 e
    go false e = let h = eqb-false (q % 2) 0 e in omega (arith, div-add-mod' q 2, mod-lt q {m = 2} (omega arith), div-add-mod' (q + 1) 2)

-- the even one is next to the half
even_next : (q : ℕ) → (q ≤ even_of q) × (even_of q ≤ q + 1)
even_next q = go (eqb (q % 2) 0)
  where
    go : (t : Bool) → (q ≤ pick t q (q + 1)) × (pick t q (q + 1) ≤ q + 1)
    go true = (omega arith, omega arith)
    go false = (omega arith, omega arith)

-- n cents are off a charge of c by at most half a cent, and even where c is some cents and an exact
-- half
record Close (c n : ℕ) : Type 0 where
  over : 2 * c ≤ (2 * n + 1) * gib
  under : 2 * n * gib ≤ 2 * c + gib
  even : (m : ℕ) → 2 * c ≡ (2 * m + 1) * gib → n % 2 ≡ 0

close : (c : ℕ) → Close c (nearest c)
close c = go (ltb (2 ^ 29) (c % gib)) (ltb (c % gib) (2 ^ 29)) refl refl
  where
    go : (t u : Bool) → ltb (2 ^ 29) (c % gib) ≡ t → ltb (c % gib) (2 ^ 29) ≡ u → Close c (pick t (c / gib + 1) (pick u (c / gib) (even_of (c / gib))))
    go true u e f =
        let h = ltb-true (2 ^ 29) (c % gib) e in
        let d = div-add-mod' c gib in
        let l = mod-lt c {m = gib} (omega arith) in
        record { over = omega arith; under = omega arith; even = λ m k. omega (arith, half_rest c m k) }
    go false true e f =
        let h = ltb-true (c % gib) (2 ^ 29) f in
        let d = div-add-mod' c gib in
        record { over = omega arith; under = omega arith; even = λ m k. omega (arith, half_rest c m k) }
    go false false e f =
        let h = ltb-false (2 ^ 29) (c % gib) e in
        let l = ltb-false (c % gib) (2 ^ 29) f in
        let d = div-add-mod' c gib in
        let n = even_next (c / gib) in
        record { over = omega arith; under = omega arith; even = λ m k. even_is (c / gib) }

-- other cents are off by half a cent at least
other : (c n m : ℕ) → Close c n → (n < m) ⊎ (m ≤ n) → apart c (n * gib) ≤ apart c (m * gib)
other c n m h (inl l) = omega (arith, h.over, h.under)
other c n m h (inr l) = ⊎_elim (λ (g : m ≡ n). rw g (omega arith)) (λ (g : m < n). omega (arith, h.over, h.under)) (eq_or_lt m n l)

-- the cents of a charge are the nearest
pub nearest_right : (c : ℕ) → Nearest c (nearest c)
nearest_right c = record { near = λ m. other c (nearest c) m (close c) (lt_or_le (nearest c) m); even = (close c).even }

-- of two numbers that follow each other one is odd
one_odd : (n : ℕ) → n % 2 ≡ 0 → (n + 1) % 2 ≡ 0 → ⊥
one_odd n h k = omega (arith, div-add-mod' n 2, div-add-mod' (n + 1) 2)

-- two numbers of cents, each the nearest, with n below m: the charge is half way between n and n +
-- 1, which is m
never_two : (c n m : ℕ) → Nearest c n → Nearest c m → n < m → ⊥
never_two c n m h k l = one_odd n (h.even n half) (subst (λ (x : ℕ). x % 2 ≡ 0) next (k.even n half))
  where
    half : 2 * c ≡ (2 * n + 1) * gib
    half = omega (arith, h.near (n + 1), h.near m, k.near n)

    next : m ≡ n + 1
    next = omega (arith, h.near (n + 1), h.near m, k.near n)

-- so no other cents are the nearest
pub nearest_only : (c n m : ℕ) → Nearest c n → Nearest c m → n ≡ m
nearest_only c n m h k = ⊎_elim (λ l. absurd (never_two c n m h k l)) (λ l. ⊎_elim (λ g. absurd (never_two c m n k h g)) (λ g. omega arith) (lt_or_le m n)) (lt_or_le n m)
