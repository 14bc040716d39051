-- The form of a plan's text, sentence by sentence (document 02, ask 14), as what a text is put
-- together from; `readable` is the test of it from the front.
use Rattle.std.specs.Prelude.{◌≡◌, Bool, true, ◌&&◌, List, [], ◌∷◌, ◌++◌, ℕ, ◌≤◌, length}
use Rattle.liberation.specs.Plans.{Step, step}
use Rattle.plan_texts.specs.Form.Reading.{is_digit, value_from, names}

-- every byte is a digit
abbrev pub all_digits : List ℕ → Bool
all_digits [] = true
all_digits (b ∷ bs) = is_digit b && all_digits bs

-- one to three digits, leading zeros allowed, not over 255: the number n
pub record NumberText (t : List ℕ) (n : ℕ) : Type 0 where
  pub digits : all_digits t ≡ true
  pub some : 1 ≤ length t
  pub few : length t ≤ 3
  pub value : value_from 0 t ≡ n
  pub small : n ≤ 255

-- R or r is kind 0, D or d is kind 1
pub data LetterText : ℕ → ℕ → Type 0 where
  capital_r : LetterText 82 0
  small_r : LetterText 114 0
  capital_d : LetterText 68 1
  small_d : LetterText 100 1

-- LF or CR LF
pub data EndText : List ℕ → Type 0 where
  lf : EndText (10 ∷ [])
  cr_lf : EndText (13 ∷ (10 ∷ []))

-- row, set, number, ended
pub data LineText : List ℕ → Step → Type 0 where
  line : {ds es e : List ℕ} {b row kind number : ℕ} → NumberText ds row → LetterText b kind → NumberText es number → EndText e → LineText (ds ++ (44 ∷ (b ∷ (44 ∷ (es ++ e))))) (step row kind number)

-- lines one after another, a line a step
pub data LinesText : List ℕ → List Step → Type 0 where
  none : LinesText [] []
  next : {t u : List ℕ} {s : Step} {ss : List Step} → LineText t s → LinesText u ss → LinesText (t ++ u) (s ∷ ss)

-- the names line, ended, then a line for each step
pub data PlanText : List ℕ → List Step → Type 0 where
  text : {e u : List ℕ} {ss : List Step} → EndText e → LinesText u ss → PlanText (names ++ (e ++ u)) ss
