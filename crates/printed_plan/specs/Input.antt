-- The input of the printed plan (document 01, "The printed plan"), and its form.
use Rattle.std.specs.Prelude.{Bool, ◌&&◌, List, [], ◌∷◌, ◌++◌, ℕ, ◌+◌, ◌-◌, ◌*◌, eqb, ltb, get_or, drop}
use Rattle.mathematics.specs.Choice.{pick}
use Rattle.mathematics.specs.Lists.{same}
use Rattle.text.specs.Digits.{digits_of}

-- a fixed byte string, ended by LF: `p,lost`
abbrev pub names_line : List ℕ
names_line = 112 ∷ (44 ∷ (108 ∷ (111 ∷ (115 ∷ (116 ∷ (10 ∷ []))))))

-- the input for width a and lost disk b
abbrev pub input_of : ℕ → ℕ → List ℕ
input_of a b = names_line ++ (digits_of a ++ (44 ∷ (digits_of b ++ (10 ∷ []))))

-- the number before the byte `stop`, if it has one or two digits
abbrev pub value_to : ℕ → List ℕ → ℕ
value_to stop t = pick (eqb (get_or t 1 0) stop) (get_or t 0 0 - 48) (10 * (get_or t 0 0 - 48) + (get_or t 1 0 - 48))

-- the two numbers of an input that has the form; what follows the first comma of the values line
abbrev pub first_value : List ℕ → ℕ
first_value t = value_to 44 (drop 7 t)

abbrev pub after_first : List ℕ → List ℕ
after_first t = drop (pick (eqb (get_or t 8 0) 44) 9 10) t

abbrev pub second_value : List ℕ → ℕ
second_value t = value_to 10 (after_first t)

-- "program input not of its form" is what refusal 12 is for: an input is of its form exactly if it
-- is the input of two numbers below 100
unfoldable pub is_form : List ℕ → Bool
is_form t = ltb (first_value t) 100 && (ltb (second_value t) 100 && same t (input_of (first_value t) (second_value t)))
