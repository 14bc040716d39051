-- The plain form has the form, so that it is read, and gives its steps back. How long it is.
use mathlib.Core.Path.{◌≡◌, refl, subst}
use mathlib.Core.Bool.{true}
use mathlib.Core.Logic.{⊎_elim}
use mathlib.Core.List.{List, [], ◌∷◌}
use Prim.Native.Nat.{ℕ, zero, suc, ◌+◌, ◌*◌, ◌/◌, ◌%◌, ◌≤◌, ◌<◌}
use native.Mathlib.Omega.{arith}
use lib.Dec.{ltb, leb}
use lib.ListN.{length, length-append}
use borrow.Author.Tests.{ltb-true, leb-true, le-leb}
use Rattle.mathematics.proofs.Flags.{and_l, and_r, and_i}
use Rattle.mathematics.proofs.OrderLaws.{lt_or_le}
use Rattle.liberation.specs.Plans.{Step}
use Rattle.text.specs.Digits.{digits_of}
use Rattle.text.proofs.DigitLaws.{one_digit, two_digits}
use Rattle.text.specs.Fields.{letter_of}
use Rattle.text.proofs.FieldLaws.{step_most}
use Rattle.plan_texts.specs.Form.Reading.{is_digit, value_from}
use Rattle.plan_texts.specs.Form.Plain.{plain_line, plain_lines, plain, writable}
use Rattle.plan_texts.specs.Form.Form.{NumberText, LetterText, capital_r, capital_d, lf, LineText, line, LinesText, none, next, PlanText, text}

digit_is : (d : ℕ) → d < 10 → is_digit (48 + d) ≡ true
digit_is d h = and_i _ _ (le-leb 48 (48 + d) (omega arith)) (le-leb (48 + d) 57 (omega arith))

-- a number below 100, written without leading zeros
pub plain_number : (n : ℕ) → n < 100 → NumberText (digits_of n) n
unfolding value_from
plain_number n h = ⊎_elim one two (lt_or_le n 10)
  where
    one : n < 10 → NumberText (digits_of n) n
    one l =
        subst (λ (t : List ℕ). NumberText t n) (one_digit n l)
        (record { digits = and_i _ _ (digit_is n l) refl; some = omega arith; few = omega arith; value = omega arith; small = omega arith })

    two : 10 ≤ n → NumberText (digits_of n) n
    two l =
        subst (λ (t : List ℕ). NumberText t n) (two_digits n l)
        (record {
          digits = and_i _ _ (digit_is (n / 10) (omega arith)) (and_i _ _ (digit_is (n % 10) (omega arith)) refl);
          some = omega arith;
          few = omega arith;
          value = omega arith;
          small = omega arith;
        })

-- a capital
pub plain_letter : (kind : ℕ) → kind ≤ 1 → LetterText (letter_of kind) kind
plain_letter zero h = capital_r
plain_letter (suc zero) h = capital_d
plain_letter (suc (suc kind)) h = absurd (omega arith)

pub plain_line_lem : (s : Step) → s.row < 100 → s.number < 100 → s.kind ≤ 1 → LineText (plain_line s) s
plain_line_lem s a b c = line (plain_number s.row a) (plain_letter s.kind c) (plain_number s.number b) lf

pub plain_lines_lem : (ss : List Step) → writable ss ≡ true → LinesText (plain_lines ss) ss
unfolding plain_lines writable
plain_lines_lem [] h = none
plain_lines_lem (s ∷ ss) h =
    let h₁ = and_r (ltb s.row 100) _ h in
    let h₂ = and_r (ltb s.number 100) _ h₁ in
    next
    (plain_line_lem s (ltb-true s.row 100 (and_l (ltb s.row 100) _ h)) (ltb-true s.number 100 (and_l (ltb s.number 100) _ h₁)) (leb-true s.kind 1 (and_l (leb s.kind 1) _ h₂)))
    (plain_lines_lem ss (and_r (leb s.kind 1) _ h₂))

-- the plain form of steps has the form
pub plain_form : (ss : List Step) → writable ss ≡ true → PlanText (plain ss) ss
unfolding plain
plain_form ss h = text lf (plain_lines_lem ss h)

-- a line has at most 8 bytes
pub plain_lines_most : (ss : List Step) → length (plain_lines ss) ≤ 8 * length ss
unfolding plain_lines
plain_lines_most [] = omega arith
plain_lines_most (s ∷ ss) = omega (arith, length-append (plain_line s) (plain_lines ss), step_most s.row s.kind s.number 10, plain_lines_most ss)

pub plain_most : (ss : List Step) → length (plain ss) ≤ 15 + 8 * length ss
unfolding plain
plain_most ss = omega (arith, plain_lines_most ss)
