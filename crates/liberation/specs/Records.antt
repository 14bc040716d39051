-- A plan's steps in a record with 31 places ("The plan record holds its steps in 31 places, zeros
-- after the p-th"), and in the judge's form.
use Rattle.std.specs.Prelude.{List, [], ◌∷◌, ◌++◌, ℕ, zero, suc, ◌-◌, length, get_or, replicate}
use Rattle.liberation.specs.Plans.{Step, step}

-- one number of each step: rows, kinds or set numbers
abbrev pub listed : (Step → ℕ) → List Step → List ℕ
listed g [] = []
listed g (s ∷ ss) = g s ∷ listed g ss

abbrev pub rows_of : List Step → List ℕ
rows_of ss = listed (λ s. s.row) ss

abbrev pub kinds_of : List Step → List ℕ
kinds_of ss = listed (λ s. s.kind) ss

abbrev pub numbers_of : List Step → List ℕ
numbers_of ss = listed (λ s. s.number) ss

-- zeros after a list, up to 31 places
abbrev pub padded : List ℕ → List ℕ
padded xs = xs ++ replicate (31 - length xs) 0

-- a record's steps, n of them from place i on
unfoldable pub recorded : ℕ → ℕ → List ℕ → List ℕ → List ℕ → List Step
recorded zero i rows kinds numbers = []
recorded (suc n) i rows kinds numbers = step (get_or rows i 0) (get_or kinds i 0) (get_or numbers i 0) ∷ recorded n (suc i) rows kinds numbers

-- the same in the judge's form, three bytes a step
unfoldable pub judge_form : ℕ → ℕ → List ℕ → List ℕ → List ℕ → List ℕ
judge_form zero i rows kinds numbers = []
judge_form (suc n) i rows kinds numbers = get_or rows i 0 ∷ (get_or kinds i 0 ∷ (get_or numbers i 0 ∷ judge_form n (suc i) rows kinds numbers))
