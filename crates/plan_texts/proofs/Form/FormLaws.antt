-- Nothing but texts of the form is read: a readable text is put together as the form says, from the
-- steps that are read.
use mathlib.Core.Path.{◌≡◌, refl, sym, ap, ap₂, subst, ◌∙◌}
use mathlib.Core.Bool.{Bool, true, false, ◌&&◌, false≢true}
use mathlib.Core.Logic.{⊎_elim}
use mathlib.Core.List.{List, [], ◌∷◌, ◌++◌, append_assoc}
use Prim.Native.Nat.{ℕ, zero, suc, ◌+◌}
use native.Mathlib.Omega.{arith}
use lib.Dec.{eqb, leb}
use lib.ListN.{length, take, drop, length-drop, take-append-drop}
use lib.Seq.{take-add, take_all}
use borrow.Author.Tests.{eqb-true}
use Rattle.mathematics.specs.Choice.{pick}
use Rattle.mathematics.specs.Lists.{is_in, same}
use Rattle.mathematics.proofs.Flags.{and_l, and_r, or_cases}
use Rattle.mathematics.proofs.MemberLaws.{same_true}
use Rattle.plan_texts.specs.Form.Reading.{byte_at, digits_in, is_number, end_in, is_letter, is_set, kind_of, after_row, after_set, after_number, line_in, lines_in, names, names_size, is_names, readable, steps_read}
use Rattle.plan_texts.specs.Form.Form.{LetterText, capital_r, small_r, capital_d, small_d, EndText, lf, cr_lf, LineText, line, LinesText, none, next, PlanText, text}
use Rattle.plan_texts.proofs.Form.NumberLaws.{number_form}

-- a byte that is not 0 stands in the text
pub byte_front : (t : List ℕ) (c : ℕ) → byte_at t 0 ≡ suc c → t ≡ suc c ∷ drop 1 t
byte_front [] c e = absurd (omega arith)
byte_front (b ∷ t) c e = ap (λ (x : ℕ). x ∷ t) e

-- what is taken for a line end is one
pub end_form : (t : List ℕ) → leb 1 (end_in t) ≡ true → EndText (take (end_in t) t)
unfolding end_in
end_form t h = go (eqb (byte_at t 0) 10) refl h
  where
    two : eqb (byte_at t 0) 13 ≡ true → eqb (byte_at t 1) 10 ≡ true → EndText (take 2 t)
    two a b =
        let e : t ≡ 13 ∷ drop 1 t = byte_front t 12 (eqb-true (byte_at t 0) 13 a) in
        let f : drop 1 t ≡ 10 ∷ drop 1 (drop 1 t) = byte_front (drop 1 t) 9 (sym (ap (λ (x : List ℕ). byte_at x 1) e) ∙ eqb-true (byte_at t 1) 10 b) in
        subst (λ (x : List ℕ). EndText (take 2 x)) (sym (e ∙ ap (λ (x : List ℕ). 13 ∷ x) f)) cr_lf

    last : (x : Bool) → (eqb (byte_at t 0) 13 && eqb (byte_at t 1) 10) ≡ x → leb 1 (pick x 2 0) ≡ true → EndText (take (pick x 2 0) t)
    last true e h = two (and_l (eqb (byte_at t 0) 13) (eqb (byte_at t 1) 10) e) (and_r (eqb (byte_at t 0) 13) (eqb (byte_at t 1) 10) e)
    last false e h = absurd (false≢true h)

    go : (x : Bool) → eqb (byte_at t 0) 10 ≡ x → leb 1 (pick x 1 (pick (eqb (byte_at t 0) 13 && eqb (byte_at t 1) 10) 2 0)) ≡ true → EndText (take (pick x 1 (pick (eqb (byte_at t 0) 13 && eqb (byte_at t 1) 10) 2 0)) t)
    go true e h = subst (λ (x : List ℕ). EndText (take 1 x)) (sym (byte_front t 9 (eqb-true (byte_at t 0) 10 e))) lf
    go false e h = last (eqb (byte_at t 0) 13 && eqb (byte_at t 1) 10) refl h

-- what is taken for a letter is one
pub letter_form : (b : ℕ) → is_letter b ≡ true → LetterText b (kind_of b)
letter_form b h = ⊎_elim (λ e. put 68 e capital_d) (λ i. ⊎_elim (λ e. put 82 e capital_r) (λ j. ⊎_elim (λ e. put 100 e small_d) last (or_cases _ _ j)) (or_cases _ _ i)) (or_cases _ _ h)
  where
    put : (c : ℕ) → eqb b c ≡ true → LetterText c (kind_of c) → LetterText b (kind_of b)
    put c e k = subst (λ (x : ℕ). LetterText x (kind_of x)) (sym (eqb-true b c e)) k

    last : is_in b (114 ∷ []) ≡ true → LetterText b (kind_of b)
    last j = ⊎_elim (λ e. put 114 e small_r) (λ n. absurd (false≢true n)) (or_cases _ _ j)

-- commas around a letter
pub set_form : (t : List ℕ) → is_set t ≡ true → t ≡ 44 ∷ (byte_at t 1 ∷ (44 ∷ drop 3 t))
unfolding is_set
set_form [] h = absurd (false≢true h)
set_form (a ∷ []) h = absurd (false≢true (and_r (eqb a 44) false h))
set_form (a ∷ (b ∷ [])) h = absurd (false≢true (and_r (is_letter b) _ (and_r (eqb a 44) _ h)))
set_form (a ∷ (b ∷ (c ∷ t))) h =
    ap₂ (λ (x y : ℕ). x ∷ (b ∷ (y ∷ t))) (eqb-true a 44 (and_l (eqb a 44) _ h)) (eqb-true c 44 (and_r (is_letter b) (eqb c 44) (and_r (eqb a 44) _ h)))

-- what is taken for a line is one
pub line_form : (t : List ℕ) → (line_in t).ok ≡ true → LineText (take (line_in t).size t) (line_in t).read
unfolding line_in is_set
line_form t h =
    let h₁ = and_r (is_number t) _ h in
    let h₂ = and_r (is_set u) _ h₁ in
    let is : is_set u ≡ true = and_l (is_set u) _ h₁ in
    subst (λ (x : List ℕ). LineText x (line_in t).read) (sym (bytes (set_form u is)))
    (line
    (number_form t (and_l _ _ h))
    (letter is)
    (number_form v (and_l (is_number v) _ h₂))
    (end_form w (and_r (is_number v) _ h₂)))
  where
    u : List ℕ
    u = after_row t

    v : List ℕ
    v = after_set t

    w : List ℕ
    w = after_number t

    letter : is_set u ≡ true → LetterText (byte_at u 1) (kind_of (byte_at u 1))
    letter is = letter_form (byte_at u 1) (and_l _ _ (and_r (eqb (byte_at u 0) 44) _ is))

    bytes : u ≡ 44 ∷ (byte_at u 1 ∷ (44 ∷ v)) → take (digits_in t + (3 + (digits_in v + end_in w))) t ≡ take (digits_in t) t ++ (44 ∷ (byte_at u 1 ∷ (44 ∷ (take (digits_in v) v ++ take (end_in w) w))))
    bytes e =
        take-add (digits_in t) (3 + (digits_in v + end_in w)) t
        ∙ ap (λ (x : List ℕ). take (digits_in t) t ++ x) (ap (take (3 + (digits_in v + end_in w))) e ∙ take-add 3 (digits_in v + end_in w) (44 ∷ (byte_at u 1 ∷ (44 ∷ v))) ∙ ap (λ (x : List ℕ). 44 ∷ (byte_at u 1 ∷ (44 ∷ x))) (take-add (digits_in v) (end_in w) v))

-- n lines
pub lines_form : (n : ℕ) (t : List ℕ) → (lines_in n t).ok ≡ true → LinesText (take (lines_in n t).size t) (lines_in n t).steps
unfolding lines_in
lines_form zero t h = none
lines_form (suc n) t h =
    let a = line_in t in
    let u = drop a.size t in
    subst (λ (x : List ℕ). LinesText x (a.read ∷ (lines_in n u).steps)) (sym (take-add a.size (lines_in n u).size t))
    (next (line_form t (and_l a.ok (lines_in n u).ok h)) (lines_form n u (and_r a.ok (lines_in n u).ok h)))

-- a text is readable only if it has the form
pub readable_form : (p : ℕ) (t : List ℕ) → readable p t ≡ true → PlanText t (steps_read p t)
unfolding readable steps_read
readable_form p t h =
    let h₁ = and_r (is_names t) _ h in
    let ok : (lines_in p u).ok ≡ true = and_l (lines_in p u).ok _ h₁ in
    let long : names_size t + (lines_in p u).size ≡ length t = eqb-true (names_size t + (lines_in p u).size) (length t) (and_r (lines_in p u).ok _ h₁) in
    let nm = and_l _ _ h in
    let head : take 14 t ≡ names = same_true (take 14 t) names (and_l _ _ nm) in
    let end : EndText (take (end_in v) v) = end_form v (and_r (same (take 14 t) names) _ nm) in
    subst (λ (x : List ℕ). PlanText x (lines_in p u).steps) (sym (bytes head long)) (text end (lines_form p u ok))
  where
    v : List ℕ
    v = drop 14 t

    u : List ℕ
    u = drop (names_size t) t

    bytes : take 14 t ≡ names → names_size t + (lines_in p u).size ≡ length t → t ≡ names ++ (take (end_in v) v ++ take (lines_in p u).size u)
    bytes head long =
        sym (take-append-drop (names_size t) t)
        ∙ ap₂ ◌++◌ (take-add 14 (end_in v) t ∙ ap (λ (x : List ℕ). x ++ take (end_in v) v) head) (sym (take_all (lines_in p u).size u (omega (arith, length-drop (names_size t) t))))
        ∙ append_assoc names (take (end_in v) v) (take (lines_in p u).size u)
