-- The theorems of document 02, ask 14, for accepted plans of p steps.
use mathlib.Core.Path.{◌≡◌, refl, sym, ap, ◌∙◌}
use mathlib.Core.Bool.{true}
use mathlib.Core.List.{List}
use Prim.Native.Nat.{ℕ, ◌+◌, ◌*◌, ◌≤◌}
use native.Mathlib.Omega.{arith}
use lib.ListN.{length}
use borrow.Author.Tests.{lt-ltb, le-leb}
use Rattle.mathematics.proofs.Flags.{and_i}
use Rattle.liberation.specs.Sets.{is_width}
use Rattle.liberation.specs.Plans.{Step}
use Rattle.liberation.specs.Judging.{accepted}
use Rattle.liberation.proofs.Widths.{width_most}
use Rattle.liberation.proofs.AcceptedLaws.{Passes, none, next, accepted_length, accepted_passes}
use Rattle.plan_texts.specs.Form.Reading.{readable, steps_read}
use Rattle.plan_texts.specs.Form.Plain.{plain, writable}
use Rattle.plan_texts.specs.Form.Form.{PlanText}
use Rattle.plan_texts.proofs.Form.ReadLaws.{text_readable, text_steps, text_once}
use Rattle.plan_texts.proofs.Form.FormLaws.{readable_form}
use Rattle.plan_texts.proofs.Form.StepwiseLaws.{steps_count}
use Rattle.plan_texts.proofs.Form.PlainLaws.{plain_form, plain_most}

-- the rows and numbers of an accepted plan are below p
passes_writable : {p k f : ℕ} {done : List ℕ} {ss : List Step} → p ≤ 100 → Passes p k f done ss → writable ss ≡ true
unfolding writable
passes_writable h none = refl
passes_writable h (next {s = s} {ss} g rest) =
    and_i _ _ (lt-ltb s.row 100 (omega (arith, g.row_below)))
    (and_i _ _ (lt-ltb s.number 100 (omega (arith, g.number_below)))
    (and_i _ _ (le-leb s.kind 1 g.kind_below) (passes_writable h rest)))

pub accepted_writable : (p k f : ℕ) (ss : List Step) → is_width p ≡ true → accepted p k f ss ≡ true → writable ss ≡ true
accepted_writable p k f ss w h = passes_writable (omega (arith, width_most p w)) (accepted_passes p k f ss h)

-- a text is readable exactly if it has the form and p steps, and these are the steps read
pub form_readable : (p : ℕ) (t : List ℕ) (ss : List Step) → PlanText t ss → length ss ≡ p → readable p t ≡ true
form_readable p t ss k l = ap (λ (n : ℕ). readable n t) (sym l) ∙ text_readable k

pub form_steps : (p : ℕ) (t : List ℕ) (ss : List Step) → PlanText t ss → length ss ≡ p → steps_read p t ≡ ss
form_steps p t ss k l = ap (λ (n : ℕ). steps_read n t) (sym l) ∙ text_steps k

pub readable_has_form : (p : ℕ) (t : List ℕ) → readable p t ≡ true → PlanText t (steps_read p t) × (length (steps_read p t) ≡ p)
readable_has_form p t h = (readable_form p t h, steps_count p t)

-- the plain form is readable and gives its steps back
pub plain_readable : (ss : List Step) → writable ss ≡ true → readable (length ss) (plain ss) ≡ true
plain_readable ss h = text_readable (plain_form ss h)

pub plain_steps : (ss : List Step) → writable ss ≡ true → steps_read (length ss) (plain ss) ≡ ss
plain_steps ss h = text_steps (plain_form ss h)

-- equal plain forms have equal steps: plans "lead to the same plain text exactly when they name the
-- same steps in the same order"
pub plain_equal : (ss rs : List Step) → writable ss ≡ true → writable rs ≡ true → plain ss ≡ plain rs → ss ≡ rs
plain_equal ss rs h k e = text_once (plain_form ss h) (plain_form rs k) e

-- Accepted plans: p steps, for a width p, k data disks and the lost disk f. "Also write an accepted
-- plan in its one plain form"
module _ (p k f : ℕ) (w : is_width p ≡ true) where
  pub accepted_readable : (ss : List Step) → accepted p k f ss ≡ true → readable p (plain ss) ≡ true
  accepted_readable ss h = ap (λ (n : ℕ). readable n (plain ss)) (sym (accepted_length p k f ss h)) ∙ plain_readable ss (accepted_writable p k f ss w h)

  pub accepted_steps : (ss : List Step) → accepted p k f ss ≡ true → steps_read p (plain ss) ≡ ss
  accepted_steps ss h = ap (λ (n : ℕ). steps_read n (plain ss)) (sym (accepted_length p k f ss h)) ∙ plain_steps ss (accepted_writable p k f ss w h)

  -- "It goes to a lent slice of 263 bytes": they are enough
  pub accepted_most : (ss : List Step) → accepted p k f ss ≡ true → length (plain ss) ≤ 15 + 8 * p
  accepted_most ss h = omega (arith, plain_most ss, accepted_length p k f ss h)

  pub accepted_fits : (ss : List Step) → accepted p k f ss ≡ true → length (plain ss) ≤ 263
  accepted_fits ss h = omega (arith, accepted_most ss h, width_most p w)
