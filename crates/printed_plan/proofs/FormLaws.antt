-- The form of an input: it has the form exactly if it is the input of two numbers below 100, and
-- these two are read from it.
-- So no input of more than 13 bytes has the form.
use mathlib.Core.Path.{◌≡◌, refl, sym, ap, ap₂, ◌∙◌}
use mathlib.Core.Bool.{Bool, true, false, ◌&&◌, and-false}
use mathlib.Core.List.{List, [], ◌∷◌, ◌++◌}
use mathlib.Core.Logic.{⊎_elim}
use Prim.Native.Nat.{ℕ, ◌+◌, ◌-◌, ◌*◌, ◌/◌, ◌%◌, ◌≤◌, ◌<◌}
use native.Mathlib.Omega.{arith}
use lib.Dec.{eqb, ltb}
use lib.Pointwise.{pointwise}
use lib.ListN.{length, drop, length-append}
use borrow.Author.Tests.{lt-ltb, le-ltb, ltb-true, eq-eqb, ne_eqb}
use Rattle.mathematics.specs.Choice.{pick}
use Rattle.mathematics.specs.Lists.{same}
use Rattle.mathematics.proofs.Flags.{and_l, and_r, and_i, flag}
use Rattle.mathematics.proofs.OrderLaws.{lt_or_le}
use Rattle.mathematics.proofs.MemberLaws.{same_true, same_self}
use Rattle.text.specs.Digits.{digits_of}
use Rattle.text.proofs.CompareLaws.{compared}
use Rattle.text.proofs.DigitLaws.{one_digit, two_digits}
use Rattle.text.proofs.FieldLaws.{field_most}
use Rattle.printed_plan.specs.Input.{names_line, input_of, value_to, first_value, after_first, second_value, is_form}
use Rattle.printed_plan.proofs.InputLaws.{input_fields}

-- what the three tests of the code say of the form
pub no_form_first : (t : List ℕ) → 100 ≤ first_value t → is_form t ≡ false
unfolding is_form
no_form_first t h = ap (λ (b : Bool). b && (ltb (second_value t) 100 && same t (input_of (first_value t) (second_value t)))) (le-ltb (first_value t) 100 h)

pub no_form_second : (t : List ℕ) → 100 ≤ second_value t → is_form t ≡ false
unfolding is_form
no_form_second t h = ap (λ (b : Bool). ltb (first_value t) 100 && (b && same t (input_of (first_value t) (second_value t)))) (le-ltb (second_value t) 100 h) ∙ and-false (ltb (first_value t) 100)

pub form_compared : (t x : List ℕ) (f s : ℕ) (b : Bool) → f ≡ first_value t → s ≡ second_value t → f < 100 → s < 100 → x ≡ input_of f s → b ≡ pointwise eqb t x → is_form t ≡ b
unfolding is_form
form_compared t x f s b e q h k r c =
    ap₂ (λ (a b : Bool). a && (b && same t (input_of (first_value t) (second_value t)))) (lt-ltb (first_value t) 100 (omega (arith, e))) (lt-ltb (second_value t) 100 (omega (arith, q)))
    ∙ ap (same t) (sym (r ∙ ap₂ input_of e q))
    ∙ sym (c ∙ compared t x)

-- a number is read back from its digits, if the byte after it is none
value_back : (stop n : ℕ) (rest : List ℕ) → n < 100 → stop < 48 → value_to stop (digits_of n ++ (stop ∷ rest)) ≡ n
value_back stop n rest h k = ⊎_elim one two (lt_or_le n 10)
  where
    one : n < 10 → value_to stop (digits_of n ++ (stop ∷ rest)) ≡ n
    one l =
        ap (λ (x : List ℕ). value_to stop (x ++ (stop ∷ rest))) (sym (one_digit n l))
        ∙ ap (λ (b : Bool). pick b (48 + n - 48) (10 * (48 + n - 48) + (stop - 48))) (eq-eqb stop stop refl)
        ∙ omega arith

    two : 10 ≤ n → value_to stop (digits_of n ++ (stop ∷ rest)) ≡ n
    two l =
        ap (λ (x : List ℕ). value_to stop (x ++ (stop ∷ rest))) (sym (two_digits n l))
        ∙ ap (λ (b : Bool). pick b (48 + n / 10 - 48) (10 * (48 + n / 10 - 48) + (48 + n % 10 - 48))) (ne_eqb (48 + n % 10) stop (λ e. omega arith))
        ∙ omega arith

pub first_back : (a b : ℕ) → a < 100 → first_value (input_of a b) ≡ a
first_back a b h = value_back 44 a (digits_of b ++ (10 ∷ [])) h (omega arith)

-- the second number begins behind the first and its comma
after_back : (a b : ℕ) → a < 100 → after_first (input_of a b) ≡ digits_of b ++ (10 ∷ [])
after_back a b h = ⊎_elim one two (lt_or_le a 10)
  where
    rest : List ℕ
    rest = 44 ∷ (digits_of b ++ (10 ∷ []))

    one : a < 10 → after_first (input_of a b) ≡ digits_of b ++ (10 ∷ [])
    one l = ap (λ (x : List ℕ). after_first (names_line ++ (x ++ rest))) (sym (one_digit a l))

    two : 10 ≤ a → after_first (input_of a b) ≡ digits_of b ++ (10 ∷ [])
    two l =
        ap (λ (x : List ℕ). after_first (names_line ++ (x ++ rest))) (sym (two_digits a l))
        ∙ ap (λ (t : Bool). drop (pick t 9 10) (names_line ++ ((48 + a / 10) ∷ ((48 + a % 10) ∷ rest)))) (ne_eqb (48 + a % 10) 44 (λ e. omega arith))

pub second_back : (a b : ℕ) → a < 100 → b < 100 → second_value (input_of a b) ≡ b
second_back a b h k = ap (value_to 10) (after_back a b h) ∙ value_back 10 b [] k (omega arith)

-- the input of two numbers has the form
pub form_of : (a b : ℕ) → a < 100 → b < 100 → is_form (input_of a b) ≡ true
unfolding is_form
form_of a b h k =
    ap₂ (λ (x y : ℕ). ltb x 100 && (ltb y 100 && same (input_of a b) (input_of x y))) (first_back a b h) (second_back a b h k)
    ∙ and_i (ltb a 100) (ltb b 100 && same (input_of a b) (input_of a b)) (lt-ltb a 100 h) (and_i (ltb b 100) (same (input_of a b) (input_of a b)) (lt-ltb b 100 k) (same_self (input_of a b)))

-- and no other has it
pub record Formed (t : List ℕ) : Type 0 where
  pub first : first_value t < 100
  pub second : second_value t < 100
  pub input : t ≡ input_of (first_value t) (second_value t)

pub form_only : (t : List ℕ) → is_form t ≡ true → Formed t
unfolding is_form
form_only t e =
    let s : Bool = same t (input_of (first_value t) (second_value t)) in
    let r : (ltb (second_value t) 100 && s) ≡ true = and_r (ltb (first_value t) 100) (ltb (second_value t) 100 && s) e in
    record {
      first = ltb-true (first_value t) 100 (and_l (ltb (first_value t) 100) (ltb (second_value t) 100 && s) e);
      second = ltb-true (second_value t) 100 (and_l (ltb (second_value t) 100) s r);
      input = same_true t (input_of (first_value t) (second_value t)) (and_r (ltb (second_value t) 100) s r);
    }

pub input_most : (a b : ℕ) → length (input_of a b) ≤ 13
input_most a b = omega (arith, ap length (sym (input_fields a b)), length-append (names_line ++ (digits_of a ++ (44 ∷ []))) (digits_of b ++ (10 ∷ [])), field_most a 44, field_most b 10)

-- a longer input has it not
pub long_no_form : (t : List ℕ) → 14 ≤ length t → is_form t ≡ false
long_no_form t h = ⊎_elim (λ e. absurd (omega (arith, ap length (form_only t e).input, input_most (first_value t) (second_value t)))) (λ e. e) (flag (is_form t))
