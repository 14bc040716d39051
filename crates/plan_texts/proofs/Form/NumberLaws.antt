-- Numbers in a text: the digits at its front, up to a byte that is none, and their value.
use mathlib.Core.Path.{◌≡◌, refl, ap, ◌∙◌}
use mathlib.Core.Bool.{Bool, true, false}
use mathlib.Core.List.{List, [], ◌∷◌, ◌++◌}
use Prim.Native.Nat.{ℕ, zero, suc, ◌≤◌}
use native.Mathlib.Omega.{arith}
use lib.Dec.{leb}
use lib.ListN.{length, take, drop}
use lib.Seq.{take-append_seam, drop-append_seam}
use borrow.Author.Tests.{le-leb, leb-true}
use Rattle.mathematics.specs.Choice.{pick}
use Rattle.mathematics.proofs.Flags.{and_l, and_r, and_i}
use Rattle.plan_texts.specs.Form.Reading.{byte_at, is_digit, digits_up_to, digits_in, value_from, number_in, is_number}
use Rattle.plan_texts.specs.Form.Form.{all_digits, NumberText}

-- digits and then none: as many as they are
pub digits_up_to_lem : (n : ℕ) (ds t : List ℕ) → all_digits ds ≡ true → length ds ≤ n → is_digit (byte_at t 0) ≡ false → digits_up_to n (ds ++ t) ≡ length ds
unfolding digits_up_to
digits_up_to_lem zero [] t d h e = refl
digits_up_to_lem zero (b ∷ ds) t d h e = absurd (omega arith)
digits_up_to_lem (suc n) [] t d h e = ap (λ (x : Bool). pick x (suc (digits_up_to n (drop 1 t))) 0) e
digits_up_to_lem (suc n) (b ∷ ds) t d h e =
    ap (λ (x : Bool). pick x (suc (digits_up_to n (ds ++ t))) 0) (and_l (is_digit b) (all_digits ds) d)
    ∙ ap suc (digits_up_to_lem n ds t (and_r (is_digit b) (all_digits ds) d) (omega arith) e)

module _ {ds : List ℕ} {n : ℕ} (t : List ℕ) (k : NumberText ds n) (e : is_digit (byte_at t 0) ≡ false) where
  pub number_size : digits_in (ds ++ t) ≡ length ds
  number_size = digits_up_to_lem 3 ds t k.digits k.few e

  pub number_value : number_in (ds ++ t) ≡ n
  number_value = ap (λ (m : ℕ). value_from 0 (take m (ds ++ t))) number_size ∙ ap (value_from 0) (take-append_seam ds t) ∙ k.value

  pub number_is : is_number (ds ++ t) ≡ true
  unfolding is_number
  number_is =
      and_i _ _
      (ap (leb 1) number_size ∙ le-leb 1 (length ds) k.some)
      (ap (λ (m : ℕ). leb m 255) number_value ∙ le-leb n 255 k.small)

  pub number_rest : drop (digits_in (ds ++ t)) (ds ++ t) ≡ t
  number_rest = ap (λ (m : ℕ). drop m (ds ++ t)) number_size ∙ drop-append_seam ds t

-- and the other way: the digits at the front are digits, at most n
pub digits_few : (n : ℕ) (t : List ℕ) → digits_up_to n t ≤ n
unfolding digits_up_to
digits_few zero t = omega arith
digits_few (suc n) t = go (is_digit (byte_at t 0)) (digits_few n (drop 1 t))
  where
    go : (b : Bool) → digits_up_to n (drop 1 t) ≤ n → pick b (suc (digits_up_to n (drop 1 t))) 0 ≤ suc n
    go true h = omega arith
    go false h = omega arith

pub digits_all : (n : ℕ) (t : List ℕ) → all_digits (take (digits_up_to n t) t) ≡ true
unfolding digits_up_to
digits_all zero t = refl
digits_all (suc n) [] = refl
digits_all (suc n) (b ∷ t) = go (is_digit b) refl (digits_all n t)
  where
    go : (x : Bool) → is_digit b ≡ x → all_digits (take (digits_up_to n t) t) ≡ true → all_digits (take (pick x (suc (digits_up_to n t)) 0) (b ∷ t)) ≡ true
    go true e h = and_i _ _ e h
    go false e h = refl

pub digits_length : (n : ℕ) (t : List ℕ) → length (take (digits_up_to n t) t) ≡ digits_up_to n t
unfolding digits_up_to
digits_length zero t = refl
digits_length (suc n) [] = refl
digits_length (suc n) (b ∷ t) = go (is_digit b) (digits_length n t)
  where
    go : (x : Bool) → length (take (digits_up_to n t) t) ≡ digits_up_to n t → length (take (pick x (suc (digits_up_to n t)) 0) (b ∷ t)) ≡ pick x (suc (digits_up_to n t)) 0
    go true h = ap suc h
    go false h = refl

-- what is taken for a number is one
pub number_form : (t : List ℕ) → is_number t ≡ true → NumberText (take (digits_in t) t) (number_in t)
unfolding is_number
number_form t h =
    let l : length (take (digits_in t) t) ≡ digits_in t = digits_length 3 t in
    let s : 1 ≤ digits_in t = leb-true 1 (digits_in t) (and_l _ _ h) in
    record {
      digits = digits_all 3 t;
      some = omega arith;
      few = omega (arith, digits_few 3 t);
      value = refl;
      small = leb-true (number_in t) 255 (and_r (leb 1 (digits_in t)) (leb (number_in t) 255) h);
    }
