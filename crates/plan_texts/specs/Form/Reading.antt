-- Plans as text from the host (document 02, ask 14): which bytes are a plan's text, and the steps
-- that they name. Each test is on the bytes left, t, from the front.
use Rattle.std.specs.Prelude.{Bool, true, ◌&&◌, List, [], ◌∷◌, ℕ, zero, suc, ◌+◌, ◌-◌, ◌*◌, eqb, leb, length, get_or, take, drop}
use Rattle.mathematics.specs.Choice.{pick}
use Rattle.mathematics.specs.Lists.{is_in, same}
use Rattle.liberation.specs.Plans.{Step, step}

-- a byte past the end reads as 0, which no test accepts
abbrev pub byte_at : List ℕ → ℕ → ℕ
byte_at t i = get_or t i 0

-- "0" to "9"
abbrev pub is_digit : ℕ → Bool
is_digit b = leb 48 b && leb b 57

-- the digits at the front, n at most
unfoldable pub digits_up_to : ℕ → List ℕ → ℕ
digits_up_to zero t = 0
digits_up_to (suc n) t = pick (is_digit (byte_at t 0)) (suc (digits_up_to n (drop 1 t))) 0

-- "numbers have one to three digits, leading zeros allowed"
abbrev pub digits_in : List ℕ → ℕ
digits_in t = digits_up_to 3 t

-- the value of digits that follow digits of value v
unfoldable pub value_from : ℕ → List ℕ → ℕ
value_from v [] = v
value_from v (b ∷ bs) = value_from (10 * v + (b - 48)) bs

-- the number at the front
abbrev pub number_in : List ℕ → ℕ
number_in t = value_from 0 (take (digits_in t) t)

-- "Numbers over 255 break the form"
unfoldable pub is_number : List ℕ → Bool
is_number t = leb 1 (digits_in t) && leb (number_in t) 255

-- "Line ends may be LF or CR LF": the bytes of the line end, 0 if there is none
unfoldable pub end_in : List ℕ → ℕ
end_in t = pick (eqb (byte_at t 0) 10) 1 (pick (eqb (byte_at t 0) 13 && eqb (byte_at t 1) 10) 2 0)

-- "R and D may be small letters": D R d r
abbrev pub is_letter : ℕ → Bool
is_letter b = is_in b (68 ∷ (82 ∷ (100 ∷ (114 ∷ []))))

-- R or r is kind 0, D or d kind 1
abbrev pub kind_of : ℕ → ℕ
kind_of b = pick (is_in b (82 ∷ (114 ∷ []))) 0 1

-- a comma, a letter, a comma
unfoldable pub is_set : List ℕ → Bool
is_set t = eqb (byte_at t 0) 44 && (is_letter (byte_at t 1) && eqb (byte_at t 2) 44)

-- what follows the row, the letter with its commas, the number
abbrev pub after_row : List ℕ → List ℕ
after_row t = drop (digits_in t) t

abbrev pub after_set : List ℕ → List ℕ
after_set t = drop 3 (after_row t)

abbrev pub after_number : List ℕ → List ℕ
after_number t = drop (digits_in (after_set t)) (after_set t)

-- a line at the front: whether there is one, its step, its bytes
pub record Line : Type 0 where
  pub ok : Bool
  pub read : Step
  pub size : ℕ

unfoldable pub line_in : List ℕ → Line
line_in t =
    record {
      ok = is_number t && (is_set (after_row t) && (is_number (after_set t) && leb 1 (end_in (after_number t))));
      read = step (number_in t) (kind_of (byte_at (after_row t) 1)) (number_in (after_set t));
      size = digits_in t + (3 + (digits_in (after_set t) + end_in (after_number t)));
    }

-- n lines at the front
pub record Lines : Type 0 where
  pub ok : Bool
  pub steps : List Step
  pub size : ℕ

unfoldable pub lines_in : ℕ → List ℕ → Lines
lines_in zero t = record { ok = true; steps = []; size = 0 }
lines_in (suc n) t =
    let a = line_in t in
    let b = lines_in n (drop a.size t) in
    record { ok = a.ok && b.ok; steps = a.read ∷ b.steps; size = a.size + b.size }

-- `row,set,number`
abbrev pub names : List ℕ
names = 114 ∷ (111 ∷ (119 ∷ (44 ∷ (115 ∷ (101 ∷ (116 ∷ (44 ∷ (110 ∷ (117 ∷ (109 ∷ (98 ∷ (101 ∷ (114 ∷ [])))))))))))))

-- the names line with its end, and what follows it
abbrev pub names_size : List ℕ → ℕ
names_size t = 14 + end_in (drop 14 t)

abbrev pub is_names : List ℕ → Bool
is_names t = same (take 14 t) names && leb 1 (end_in (drop 14 t))

-- "Read the names line `row,set,number`, then p lines of values": nothing is left after them
unfoldable pub readable : ℕ → List ℕ → Bool
readable p t =
    let b = lines_in p (drop (names_size t) t) in
    is_names t && (b.ok && eqb (names_size t + b.size) (length t))

-- the steps that the p lines name
unfoldable pub steps_read : ℕ → List ℕ → List Step
steps_read p t = (lines_in p (drop (names_size t) t)).steps

-- a plan "as 3 × p bytes (row, kind, number)": what is read goes so to the judge
unfoldable pub step_bytes : List Step → List ℕ
step_bytes [] = []
step_bytes (s ∷ ss) = s.row ∷ (s.kind ∷ (s.number ∷ step_bytes ss))
