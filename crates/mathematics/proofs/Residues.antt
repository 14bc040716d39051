-- The difference of two numbers below p, mod p: it is the difference itself, or that with p added.
use mathlib.Core.Path.{◌≡◌}
use mathlib.Core.Logic.{◌⊎◌, inl, inr}
use Prim.Native.Nat.{ℕ, ◌+◌, ◌-◌, ◌%◌, ◌≤◌, ◌<◌}
use native.Mathlib.Nat.{mod-eq_of_lt, mod-eq-sub-mod}
use native.Mathlib.Omega.{arith}
use Rattle.mathematics.proofs.OrderLaws.{lt_or_le}

pub sub_small : (p x y : ℕ) → x < p → y < p → ((y ≤ x) × ((x + p - y) % p + y ≡ x)) ⊎ ((x < y) × ((x + p - y) % p + y ≡ x + p))
sub_small p x y hx hy = go (lt_or_le x y)
  where
    go : (x < y) ⊎ (y ≤ x) → ((y ≤ x) × ((x + p - y) % p + y ≡ x)) ⊎ ((x < y) × ((x + p - y) % p + y ≡ x + p))
    go (inl h) = inr (h, omega (arith, mod-eq_of_lt {n = x + p - y} {m = p} (omega arith)))
    go (inr h) = inl (h, omega (arith, mod-eq-sub-mod {n = x + p - y} {m = p} (omega arith), mod-eq_of_lt {n = x + p - y - p} {m = p} (omega arith)))
