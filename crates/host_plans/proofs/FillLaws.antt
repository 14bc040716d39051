-- Three arrays filled from the bytes of a plan: after i turns they have the bytes of i steps, and
-- in the end all steps.
use mathlib.Core.Path.{◌≡◌, refl, sym, ap, ap₂, ◌∙◌}
use mathlib.Core.Logic.{⊎_elim}
use mathlib.Core.List.{List, [], ◌∷◌, ◌++◌}
use Prim.Native.Nat.{ℕ, zero, suc, ◌+◌, ◌*◌, ◌<◌, ◌≤◌}
use native.Mathlib.Omega.{arith}
use lib.ListN.{length, get_or, set, drop, length-set, length-replicate, length-append, length-drop, get_or-append}
use lib.Seq.{drop-append_seam, get_or-drop, drop-drop, get_or-set_same, get_or-set_other}
use Rattle.mathematics.proofs.OrderLaws.{eq_or_ne}
use Rattle.liberation.specs.Plans.{Step, step}
use Rattle.liberation.specs.Records.{recorded}
use Rattle.liberation.specs.Judging.{steps_in}
use Rattle.planner.specs.declared.records.Steps.{Steps}
use Rattle.planner.specs.StepRecords.{Holds, held}

-- the first i places of an array have byte d of each of the first i steps
pub record Has (d : ℕ) (bs xs : List ℕ) (i : ℕ) : Type 0 where
  pub long : length xs ≡ 31
  pub at : (j : ℕ) → j < i → get_or xs j 0 ≡ get_or bs (3 * j + d) 0

has_none : (d : ℕ) (bs xs : List ℕ) → length xs ≡ 31 → Has d bs xs 0
has_none d bs xs e = record { long = e; at = λ j h. absurd (omega arith) }

has_next : (d x : ℕ) (bs xs : List ℕ) (i : ℕ) → i < 31 → x ≡ get_or bs (3 * i + d) 0 → Has d bs xs i → Has d bs (set xs i x) (i + 1)
has_next d x bs xs i h e u = record { long = length-set xs i x ∙ u.long; at = at }
  where
    at : (j : ℕ) → j < i + 1 → get_or (set xs i x) j 0 ≡ get_or bs (3 * j + d) 0
    at j l =
        ⊎_elim
        (λ q. ap (λ (y : ℕ). get_or (set xs i x) y 0) q ∙ get_or-set_same xs i x 0 (omega (arith, u.long)) ∙ e ∙ ap (λ (y : ℕ). get_or bs (3 * y + d) 0) (sym q))
        (λ n. get_or-set_other xs i j x 0 n ∙ u.at j (omega arith))
        (eq_or_ne j i)

-- the places from i on have the steps from i on
from : (n i : ℕ) (bs rows kinds numbers : List ℕ) → Has 0 bs rows (i + n) → Has 1 bs kinds (i + n) → Has 2 bs numbers (i + n) → recorded n i rows kinds numbers ≡ steps_in n (drop (3 * i) bs)
unfolding recorded steps_in
from zero i bs rows kinds numbers a b c = refl
from (suc n) i bs rows kinds numbers a b c = ap₂ (λ (s : Step) (l : List Step). s ∷ l) here (from n (suc i) bs rows kinds numbers (on a) (on b) (on c) ∙ ap (steps_in n) (sym rest))
  where
    on : {d : ℕ} {xs : List ℕ} → Has d bs xs (i + suc n) → Has d bs xs (suc i + n)
    on u = record { long = u.long; at = λ j h. u.at j (omega arith) }

    first : i < i + suc n
    first = omega arith

    here : step (get_or rows i 0) (get_or kinds i 0) (get_or numbers i 0) ≡ step (get_or (drop (3 * i) bs) 0 0) (get_or (drop (3 * i) bs) 1 0) (get_or (drop (3 * i) bs) 2 0)
    here = λ j. step ((a.at i first ∙ sym (get_or-drop (3 * i) bs 0 0)) j) ((b.at i first ∙ sym (get_or-drop (3 * i) bs 1 0)) j) ((c.at i first ∙ sym (get_or-drop (3 * i) bs 2 0)) j)

    after : 3 * i + 3 ≡ 3 * suc i
    after = omega arith

    rest : drop 3 (drop (3 * i) bs) ≡ drop (3 * suc i) bs
    rest = drop-drop 3 (3 * i) bs ∙ ap (λ (m : ℕ). drop m bs) after

all_steps : (p i : ℕ) (bs rows kinds numbers : List ℕ) → i ≡ p → Has 0 bs rows i → Has 1 bs kinds i → Has 2 bs numbers i → recorded p 0 rows kinds numbers ≡ steps_in p bs
all_steps p i bs rows kinds numbers e a b c = from p 0 bs rows kinds numbers (upto a) (upto b) (upto c) ∙ ap (λ (m : ℕ). steps_in p (drop m bs)) none
  where
    upto : {d : ℕ} {xs : List ℕ} → Has d bs xs i → Has d bs xs (0 + p)
    upto u = record { long = u.long; at = λ j h. u.at j (omega arith) }

    none : 3 * 0 ≡ 0
    none = omega arith

-- after i turns the record has the first i steps, and the bytes `rest` are still to come
pub record Filled (bs : List ℕ) (s : Steps) (i : ℕ) (rest : List ℕ) : Type 0 where
  pub within : 3 * i ≤ length bs
  pub rest_is : rest ≡ drop (3 * i) bs
  pub rows : Has 0 bs s.rows i
  pub kinds : Has 1 bs s.kinds i
  pub numbers : Has 2 bs s.numbers i

pub filled_none : (bs rest : List ℕ) (s : Steps) (i : ℕ) → i ≡ 0 → rest ≡ bs → Holds [] s → Filled bs s i rest
filled_none bs rest s i z e h = rw z (record {
  within = omega arith;
  rest_is = let none : 0 ≡ 3 * 0 = omega arith in e ∙ ap (λ (n : ℕ). drop n bs) none;
  rows = has_none 0 bs s.rows (ap length h.rows ∙ length-replicate {A = ℕ} 31 0);
  kinds = has_none 1 bs s.kinds (ap length h.kinds ∙ length-replicate {A = ℕ} 31 0);
  numbers = has_none 2 bs s.numbers (ap length h.numbers ∙ length-replicate {A = ℕ} 31 0);
})

-- the next three bytes are within
pub filled_room : {bs : List ℕ} {s : Steps} {i : ℕ} {rest : List ℕ} (x left : List ℕ) → rest ≡ x ++ left → length x ≡ 3 → Filled bs s i rest → 3 * i + 3 ≤ length bs
filled_room {bs} {i = i} x left e l u = omega (arith, l, length-append x left, ap length e, ap length u.rest_is, length-drop (3 * i) bs)

pub filled_next : {bs : List ℕ} {s : Steps} {i : ℕ} {rest : List ℕ} (x left : List ℕ) (j : ℕ) → j ≡ i + 1 → i < 31 → rest ≡ x ++ left → length x ≡ 3 → Filled bs s i rest
    → Filled bs (record { rows = set s.rows i (get_or x 0 0); kinds = set s.kinds i (get_or x 1 0); numbers = set s.numbers i (get_or x 2 0) }) j left
filled_next {bs} {s} {i} {rest} x left j q h e l u = rw q (record {
  within = omega (arith, filled_room x left e l u);
  rest_is = after;
  rows = has_next 0 _ bs s.rows i h (byte 0 (omega (arith, l))) u.rows;
  kinds = has_next 1 _ bs s.kinds i h (byte 1 (omega (arith, l))) u.kinds;
  numbers = has_next 2 _ bs s.numbers i h (byte 2 (omega (arith, l))) u.numbers;
})
  where
    byte : (d : ℕ) → d < length x → get_or x d 0 ≡ get_or bs (3 * i + d) 0
    byte d k = sym (get_or-append x left 0 d k) ∙ ap (λ (y : List ℕ). get_or y d 0) (sym e ∙ u.rest_is) ∙ get_or-drop (3 * i) bs d 0

    three : 3 * i + 3 ≡ 3 * (i + 1)
    three = omega arith

    after : left ≡ drop (3 * (i + 1)) bs
    after = sym (drop-append_seam x left) ∙ ap₂ (λ (n : ℕ) (y : List ℕ). drop n y) l (sym e ∙ u.rest_is) ∙ drop-drop 3 (3 * i) bs ∙ ap (λ (n : ℕ). drop n bs) three

pub filled_all : (p : ℕ) {bs : List ℕ} {s : Steps} {i : ℕ} {rest : List ℕ} → length bs ≡ 3 * p → length rest < 3 → Filled bs s i rest → held p s ≡ steps_in p bs
filled_all p {bs} {s} {i} l h u = all_steps p i bs s.rows s.kinds s.numbers (omega (arith, l, h, u.within, ap length u.rest_is, length-drop (3 * i) bs)) u.rows u.kinds u.numbers
