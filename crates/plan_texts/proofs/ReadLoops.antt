-- How the readers count and add up digits: as many as the definitions', and one digit more.
use mathlib.Core.Path.{◌≡◌, refl, sym, ap, ap₂, ◌∙◌}
use mathlib.Core.Bool.{Bool, true, false, cond, ◌&&◌}
use mathlib.Core.List.{List, [], ◌∷◌, ◌++◌}
use Prim.Native.Nat.{ℕ, zero, suc, ◌+◌, ◌-◌, ◌*◌, ◌≤◌, ◌<◌}
use native.Mathlib.Omega.{arith}
use lib.Dec.{leb}
use lib.ListN.{length, get_or, take, drop, take-append-drop, length-take}
use borrow.Author.Tests.{lt-leb, le-leb}
use Rattle.std.specs.List.{prefix_len}
use Rattle.std.proofs.lemmas.List.{take_more}
use Rattle.std.proofs.lemmas.List.Folds.{length-prefix_len}
use Rattle.mathematics.specs.Choice.{pick}
use Rattle.plan_texts.specs.Form.Reading.{is_digit, digits_up_to, digits_in, number_in, is_number, value_from}

-- the digits at the front are the longest prefix of digits
up_to : (n : ℕ) (t : List ℕ) → prefix_len is_digit (take n t) ≡ digits_up_to n t
unfolding digits_up_to
up_to zero t = refl
up_to (suc n) [] = refl
up_to (suc n) (b ∷ t) = go (is_digit b) (up_to n t)
  where
    go : (x : Bool) → prefix_len is_digit (take n t) ≡ digits_up_to n t → cond x (1 + prefix_len is_digit (take n t)) 0 ≡ pick x (suc (digits_up_to n t)) 0
    go true e = omega (arith, e)
    go false e = refl

pub digits_counted : (t : List ℕ) → length (take (prefix_len is_digit (take 3 t)) (take 3 t)) ≡ digits_in t
digits_counted t = length-prefix_len is_digit (take 3 t) ∙ up_to 3 t

-- there are as many bytes
pub digits_fit : (t : List ℕ) → digits_in t ≤ length t
digits_fit t = omega (arith, digits_counted t, length-take (prefix_len is_digit (take 3 t)) (take 3 t), length-take 3 t)

-- a number by its digits ds, which are the first n bytes: none, or some of a value
module _ (t ds : List ℕ) (n : ℕ) (e : n ≡ length (take (prefix_len is_digit (take 3 t)) (take 3 t))) (front : ds ≡ take n t) where
  same_count : n ≡ digits_in t
  same_count = e ∙ digits_counted t

  same_value : value_from 0 ds ≡ number_in t
  same_value = ap (value_from 0) (front ∙ ap (λ (m : ℕ). take m t) same_count)

  count : length ds ≡ digits_in t
  count = omega (arith, ap length front, length-take n t, same_count, digits_fit t)

  pub no_number : length ds ≡ 0 → is_number t ≡ false
  unfolding is_number
  no_number h = ap (λ (m : ℕ). leb 1 m && leb (number_in t) 255) (sym count ∙ h)

  pub number_tested : (b : Bool) → (length ds ≡ 0 → ⊥) → leb (value_from 0 ds) 255 ≡ b → is_number t ≡ b
  unfolding is_number
  number_tested b h q = ap₂ (λ (x : Bool) (m : ℕ). x && leb m 255) (le-leb 1 (digits_in t) (omega (arith, h, count))) (sym same_value) ∙ q

  pub number_value : (v : ℕ) → v ≡ value_from 0 ds → v ≡ number_in t
  number_value v q = q ∙ same_value

  pub number_rest : (u : List ℕ) → u ≡ drop n t → u ≡ drop (digits_in t) t
  number_rest u q = q ∙ ap (λ (m : ℕ). drop m t) same_count

-- more digits make no smaller number
value_grows : (v : ℕ) (ds : List ℕ) → v ≤ value_from v ds
unfolding value_from
value_grows v [] = omega arith
value_grows v (d ∷ ds) = omega (arith, value_grows (10 * v + (d - 48)) ds)

-- digits after others
value_more : (v : ℕ) (ds es : List ℕ) → value_from v (ds ++ es) ≡ value_from (value_from v ds) es
unfolding value_from
value_more v [] es = refl
value_more v (d ∷ ds) es = value_more (10 * v + (d - 48)) ds es

value_first : (n : ℕ) (ds : List ℕ) → value_from 0 (take n ds) ≤ value_from 0 ds
value_first n ds = omega (arith, value_grows (value_from 0 (take n ds)) (drop n ds), value_more 0 (take n ds) (drop n ds), ap (value_from 0) (take-append-drop n ds))

-- one digit more
pub value_next : (ds : List ℕ) (i : ℕ) → i < length ds → value_from 0 (take (i + 1) ds) ≡ 10 * value_from 0 (take i ds) + (get_or ds i 0 - 48)
unfolding value_from
value_next ds i h = ap (value_from 0) (take_more ds i 0 h) ∙ value_more 0 (take i ds) (get_or ds i 0 ∷ [])

-- a number that is too large already
pub value_large : (ds : List ℕ) (i : ℕ) → i < length ds → 255 < 10 * value_from 0 (take i ds) + (get_or ds i 0 - 48) → leb (value_from 0 ds) 255 ≡ false
value_large ds i h l = lt-leb (value_from 0 ds) 255 (omega (arith, value_next ds i h, value_first (i + 1) ds))
