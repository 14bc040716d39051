-- What the functions that read a text from its front promise: whether there is what they look for,
-- what it says, and what follows it, each equated with the definition on the bytes of the text.
use Rattle.std.specs.Prelude.{◌≡◌, Bool, true, false, ◌&&◌, List, [], ◌∷◌, ℕ, leb, eqb, length, drop, Option, MatchOption}
use Rattle.std.specs.Borrow.{Bor}
use Rattle.plan_texts.specs.Form.Reading.{digits_in, number_in, is_number, kind_of, byte_at, is_set, end_in, line_in, lines_in, readable, steps_read, step_bytes}

-- r has a value exactly if b, and then Q of it
abbrev pub Reads : {T : Type 0} → Bool → Option T → (T → Type 0) → Type 0
Reads b r Q = MatchOption r (b ≡ false) (λ x. (b ≡ true) × Q x)

-- the number at the front, and what follows its digits
abbrev pub NumberReads : List ℕ → Option (ℕ × Bor (List ℕ)) → Type 0
NumberReads t r = Reads (is_number t) r (λ x. (x.0 ≡ number_in t) × (x.1.now ≡ drop (digits_in t) t))

-- the kind of the set whose letter is at the front between commas, and what follows these
abbrev pub SetReads : List ℕ → Option (ℕ × Bor (List ℕ)) → Type 0
SetReads t r = Reads (is_set t) r (λ x. (x.0 ≡ kind_of (byte_at t 1)) × (x.1.now ≡ drop 3 t))

-- what follows the line end at the front
abbrev pub EndReads : List ℕ → Option (Bor (List ℕ)) → Type 0
EndReads t r = Reads (leb 1 (end_in t)) r (λ x. x.now ≡ drop (end_in t) t)

-- the three bytes of the step that the line at the front names, and what follows the line
abbrev pub LineReads : List ℕ → Option (List ℕ × Bor (List ℕ)) → Type 0
LineReads t r = let l = line_in t in Reads l.ok r (λ x. (x.0 ≡ step_bytes (l.read ∷ [])) × (x.1.now ≡ drop l.size t))

-- the bytes of the steps that n lines name, and nothing after them
abbrev pub LinesRead : ℕ → List ℕ → Option (List ℕ) → Type 0
LinesRead n t r = let l = lines_in n t in Reads (l.ok && eqb l.size (length t)) r (λ x. x ≡ step_bytes l.steps)

-- the bytes of the steps that the whole text names
abbrev pub ParseSays : ℕ → List ℕ → Option (List ℕ) → Type 0
ParseSays p t r = Reads (readable p t) r (λ x. x ≡ step_bytes (steps_read p t))
