-- The pieces that the writers put, joined to the texts of the definitions, and how long a line can
-- be.
use mathlib.Core.Path.{◌≡◌, sym, ap}
use mathlib.Core.List.{List, [], ◌∷◌, ◌++◌, append_assoc}
use Prim.Native.Nat.{ℕ, ◌≤◌}
use native.Mathlib.Omega.{arith}
use lib.ListN.{length, length-append}
use Rattle.liberation.specs.Plans.{Step, step}
use Rattle.text.specs.Digits.{digits_of}
use Rattle.text.specs.Fields.{step_fields}
use Rattle.text.proofs.FieldLaws.{field_most, step_most}
use Rattle.printed_plan.specs.Text.{line_of}

-- the fields of a line
pub line_fields : (i row kind number new : ℕ) → ((digits_of i ++ (44 ∷ [])) ++ step_fields row kind number 44) ++ (digits_of new ++ (10 ∷ [])) ≡ line_of i (step row kind number) new
line_fields i row kind number new = simp append_assoc

pub line_most : (i : ℕ) (s : Step) (new : ℕ) → length (line_of i s new) ≤ 14
line_most i s new =
    let a : List ℕ = digits_of i ++ (44 ∷ []) in
    let b : List ℕ = step_fields s.row s.kind s.number 44 in
    let c : List ℕ = digits_of new ++ (10 ∷ []) in
    omega (
      arith,
      ap length (sym (line_fields i s.row s.kind s.number new)),
      length-append (a ++ b) c,
      length-append a b,
      field_most i 44,
      step_most s.row s.kind s.number 44,
      field_most new 10,
    )
