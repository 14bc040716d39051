-- The pieces that the writers put, joined to the input of the definitions, and the numbers of an
-- input by its bytes.
use mathlib.Core.Path.{◌≡◌}
use mathlib.Core.List.{[], ◌∷◌, ◌++◌, append_assoc}
use Prim.Native.Nat.{ℕ}
use Rattle.text.specs.Digits.{digits_of}
use Rattle.printed_plan.specs.Input.{names_line, input_of}

-- the fields of the input
pub input_fields : (a b : ℕ) → (names_line ++ (digits_of a ++ (44 ∷ []))) ++ (digits_of b ++ (10 ∷ [])) ≡ input_of a b
input_fields a b = simp append_assoc
