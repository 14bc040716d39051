-- What is printed for an input: refusal 12 without the form, else what its two numbers give. The
-- first 14 bytes of an input decide.
use mathlib.Core.Path.{◌≡◌, sym, ap, ap₂, ◌∙◌}
use mathlib.Core.Bool.{Bool, true, false}
use mathlib.Core.List.{List}
use mathlib.Core.Logic.{⊎_elim}
use Prim.Native.Nat.{ℕ, ◌≤◌}
use native.Mathlib.Omega.{arith}
use lib.Dec.{eqb}
use lib.ListN.{length, take}
use lib.Seq.{length-take-le, take_all}
use borrow.Author.Tests.{ne_eqb}
use Rattle.mathematics.specs.Choice.{pick, first_of}
use Rattle.mathematics.proofs.OrderLaws.{lt_or_le}
use Rattle.liberation.specs.Sets.{width_refusal, disk_refusal, plan_refusal}
use Rattle.liberation.proofs.RefusalLaws.{array_same}
use Rattle.refusals.specs.declared.refusal.Refusal.{Refusal}
use Rattle.refusals.specs.Refused.{number_of}
use Rattle.printed_plan.specs.Input.{first_value, second_value, is_form}
use Rattle.printed_plan.proofs.FormLaws.{long_no_form}
use Rattle.printed_plan.specs.Text.{input_refusal, plan_text, refused_line, printed}

-- the refusal of an input, without the form and with it
pub no_form_refusal : (t : List ℕ) → is_form t ≡ false → input_refusal t ≡ 12
unfolding input_refusal
no_form_refusal t e = ap (λ (b : Bool). pick b (first_of (width_refusal (first_value t)) (disk_refusal (first_value t) (second_value t))) 12) e

pub form_refusal_lem : (t : List ℕ) → is_form t ≡ true → input_refusal t ≡ first_of (width_refusal (first_value t)) (disk_refusal (first_value t) (second_value t))
unfolding input_refusal
form_refusal_lem t e = ap (λ (b : Bool). pick b (first_of (width_refusal (first_value t)) (disk_refusal (first_value t) (second_value t))) 12) e

-- what is printed, once the refusal number is known
pub printed_refusal : (t : List ℕ) (n : ℕ) → input_refusal t ≡ n → (n ≡ 0 → ⊥) → printed t ≡ refused_line n
unfolding printed
printed_refusal t n e h =
    ap (λ (m : ℕ). pick (eqb m 0) (plan_text (first_value t) (second_value t)) (refused_line m)) e
    ∙ ap (λ (b : Bool). pick b (plan_text (first_value t) (second_value t)) (refused_line n)) (ne_eqb n 0 h)

pub printed_plan : (t : List ℕ) → input_refusal t ≡ 0 → printed t ≡ plan_text (first_value t) (second_value t)
unfolding printed
printed_plan t e = ap (λ (m : ℕ). pick (eqb m 0) (plan_text (first_value t) (second_value t)) (refused_line m)) e

pub no_form_printed : (t : List ℕ) → is_form t ≡ false → printed t ≡ refused_line 12
no_form_printed t e = printed_refusal t 12 (no_form_refusal t e) (λ q. omega arith)

-- an input of the form, of the numbers p and f: refusals 1 and 3 are the planner's for a full array
pub numbers_refusal : (t : List ℕ) (p f n : ℕ) → is_form t ≡ true → p ≡ first_value t → f ≡ second_value t → n ≡ plan_refusal p p f → n ≡ input_refusal t
numbers_refusal t p f n h e q r =
    r
    ∙ ap (λ (m : ℕ). first_of m (disk_refusal p f)) (array_same p)
    ∙ ap₂ (λ (x y : ℕ). first_of (width_refusal x) (disk_refusal x y)) e q
    ∙ sym (form_refusal_lem t h)

-- a refusal is printed
number_some : (r : Refusal) → number_of r ≡ 0 → ⊥
number_some r e = grind arith

pub refusal_printed : (t : List ℕ) (r : Refusal) → number_of r ≡ input_refusal t → refused_line (number_of r) ≡ printed t
refusal_printed t r e = sym (printed_refusal t (number_of r) (sym e) (number_some r))

-- the first 14 bytes of an input decide
pub printed_cut : (n : ℕ) (t : List ℕ) → 14 ≤ n → printed (take n t) ≡ printed t
printed_cut n t h =
    ⊎_elim
    (λ l. no_form_printed (take n t) (long_no_form (take n t) (omega (arith, length-take-le n t (omega arith)))) ∙ sym (no_form_printed t (long_no_form t (omega arith))))
    (λ l. ap printed (take_all n t l))
    (lt_or_le n (length t))
