-- The pieces that the writers put, joined to the fields of the definitions, and how long these can
-- be.
use mathlib.Core.Path.{◌≡◌, sym, ap}
use mathlib.Core.Bool.{Bool, true, false}
use mathlib.Core.List.{List, [], ◌∷◌, ◌++◌, append_assoc}
use Prim.Native.Nat.{ℕ, ◌+◌, ◌/◌, ◌%◌, ◌≤◌}
use native.Mathlib.Omega.{arith}
use lib.Dec.{ltb}
use lib.ListN.{length, length-append}
use Rattle.mathematics.specs.Choice.{pick}
use Rattle.text.specs.Digits.{digits_of}
use Rattle.text.specs.Fields.{letter_of, step_fields}

-- one digit, or two
pub digits_most : (n : ℕ) → length (digits_of n) ≤ 2
digits_most n = go (ltb n 10)
  where
    go : (b : Bool) → length (pick b ((48 + n) ∷ []) ((48 + n / 10) ∷ ((48 + n % 10) ∷ []))) ≤ 2
    go true = omega arith
    go false = omega arith

-- a number and the byte after it
pub field_most : (n stop : ℕ) → length (digits_of n ++ (stop ∷ [])) ≤ 3
field_most n stop = omega (arith, length-append (digits_of n) (stop ∷ []), digits_most n)

-- the three fields of a step
pub step_fields_lem : (row kind number stop : ℕ) → ((digits_of row ++ (44 ∷ [])) ++ (letter_of kind ∷ (44 ∷ []))) ++ (digits_of number ++ (stop ∷ [])) ≡ step_fields row kind number stop
step_fields_lem row kind number stop = simp append_assoc

pub step_most : (row kind number stop : ℕ) → length (step_fields row kind number stop) ≤ 8
step_most row kind number stop =
    let a : List ℕ = digits_of row ++ (44 ∷ []) in
    let b : List ℕ = letter_of kind ∷ (44 ∷ []) in
    let c : List ℕ = digits_of number ++ (stop ∷ []) in
    omega (arith, ap length (sym (step_fields_lem row kind number stop)), length-append (a ++ b) c, length-append a b, field_most row 44, field_most number stop)
