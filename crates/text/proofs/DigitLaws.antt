-- The bytes that the writer of a number puts are its digits.
use mathlib.Core.Path.{◌≡◌, sym, ap}
use mathlib.Core.Bool.{Bool}
use mathlib.Core.List.{[], ◌∷◌}
use Prim.Native.Nat.{ℕ, ◌+◌, ◌/◌, ◌%◌, ◌≤◌, ◌<◌}
use borrow.Author.Tests.{lt-ltb, le-ltb}
use Rattle.mathematics.specs.Choice.{pick}
use Rattle.text.specs.Digits.{digits_of}

-- one digit, or two
pub one_digit : (n : ℕ) → n < 10 → (48 + n) ∷ [] ≡ digits_of n
one_digit n h = sym (ap (λ (b : Bool). pick b ((48 + n) ∷ []) ((48 + n / 10) ∷ ((48 + n % 10) ∷ []))) (lt-ltb n 10 h))

pub two_digits : (n : ℕ) → 10 ≤ n → (48 + n / 10) ∷ ((48 + n % 10) ∷ []) ≡ digits_of n
two_digits n h = sym (ap (λ (b : Bool). pick b ((48 + n) ∷ []) ((48 + n / 10) ∷ ((48 + n % 10) ∷ []))) (le-ltb n 10 h))
