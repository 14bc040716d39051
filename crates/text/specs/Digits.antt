-- A number as text (document 01, "The printed plan").
use Rattle.std.specs.Prelude.{List, [], ◌∷◌, ℕ, ◌+◌, ◌/◌, ◌%◌, ltb}
use Rattle.mathematics.specs.Choice.{pick}

-- a number below 100 in decimal, no leading zero except 0 itself
abbrev pub digits_of : ℕ → List ℕ
digits_of n = pick (ltb n 10) ((48 + n) ∷ []) ((48 + n / 10) ∷ ((48 + n % 10) ∷ []))
