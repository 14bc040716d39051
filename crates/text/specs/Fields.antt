-- The fields of a plan's step as text (document 01, "The printed plan").
use Rattle.std.specs.Prelude.{List, [], ◌∷◌, ◌++◌, ℕ, eqb}
use Rattle.mathematics.specs.Choice.{pick}
use Rattle.text.specs.Digits.{digits_of}

-- "R or D"
abbrev pub letter_of : ℕ → ℕ
letter_of kind = pick (eqb kind 0) 82 68

-- a step: row, set, number, with commas between them and the byte `stop` after them
abbrev pub step_fields : ℕ → ℕ → ℕ → ℕ → List ℕ
step_fields row kind number stop = digits_of row ++ (44 ∷ (letter_of kind ∷ (44 ∷ (digits_of number ++ (stop ∷ [])))))
