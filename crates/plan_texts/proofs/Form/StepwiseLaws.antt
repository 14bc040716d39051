-- Reading byte by byte and line by line, for a loop over a text: the bytes at and after a place,
-- numbers by the tests of their bytes, one line more, sizes.
use mathlib.Core.Path.{◌≡◌, refl, sym, ap, ◌∙◌}
use mathlib.Core.Bool.{Bool, true, false, ◌&&◌, and-true, and_assoc, false≢true}
use mathlib.Core.List.{List, [], ◌∷◌, ◌++◌}
use Prim.Native.Nat.{ℕ, zero, suc, ◌+◌, ◌-◌, ◌*◌, ◌≤◌}
use native.Mathlib.Omega.{arith}
use lib.Dec.{eqb, leb}
use lib.ListN.{length, get_or, take, drop}
use lib.Seq.{drop-drop, get_or-drop}
use Rattle.mathematics.specs.Choice.{pick}
use Rattle.liberation.specs.Plans.{Step}
use Rattle.liberation.specs.Judging.{steps_in}
use Rattle.plan_texts.specs.Form.Reading.{byte_at, is_digit, digits_up_to, digits_in, value_from, number_in, end_in, Line, line_in, lines_in, names_size, steps_read, step_bytes, is_number, is_set, kind_of, after_row, after_set, after_number}
use borrow.Author.Tests.{leb-true}
use Rattle.mathematics.specs.Lists.{is_in}
use Rattle.mathematics.proofs.Flags.{and_l, and_r}
use Rattle.plan_texts.proofs.Form.NumberLaws.{digits_few}

-- The bytes at and after a place.
module _ (t : List ℕ) (at : ℕ) where
  pub here : get_or t at 0 ≡ byte_at (drop at t) 0
  here = let e : at + 0 ≡ at = omega arith in sym (get_or-drop at t 0 0 ∙ ap (λ (n : ℕ). get_or t n 0) e)

  pub after : (i : ℕ) → get_or t (at + i) 0 ≡ byte_at (drop at t) i
  after i = sym (get_or-drop at t i 0)

-- a number at the front: how many digits, and their value
pub record Read (t : List ℕ) (size value : ℕ) : Type 0 where
  pub digits : digits_in t ≡ size
  pub number : number_in t ≡ value

read_by : (t : List ℕ) (n v : ℕ) → digits_in t ≡ n → value_from 0 (take n t) ≡ v → Read t n v
read_by t n v e q = record { digits = e; number = ap (λ (m : ℕ). value_from 0 (take m t)) e ∙ q }

-- by the tests of the bytes, one after the other
pub read_none : (t : List ℕ) → is_digit (byte_at t 0) ≡ false → Read t 0 0
unfolding digits_up_to value_from
read_none t a = read_by t 0 0 (ap (λ (x : Bool). pick x (suc (digits_up_to 2 (drop 1 t))) 0) a) refl

pub read_one : (t : List ℕ) → is_digit (byte_at t 0) ≡ true → is_digit (byte_at t 1) ≡ false → Read t 1 (byte_at t 0 - 48)
unfolding digits_up_to value_from
read_one [] a b = absurd (false≢true a)
read_one (x ∷ t) a b = read_by (x ∷ t) 1 (x - 48) (simp (a, b)) (omega arith)

pub read_two : (t : List ℕ) → is_digit (byte_at t 0) ≡ true → is_digit (byte_at t 1) ≡ true → is_digit (byte_at t 2) ≡ false → Read t 2 (10 * (byte_at t 0 - 48) + (byte_at t 1 - 48))
unfolding digits_up_to value_from
read_two [] a b c = absurd (false≢true a)
read_two (x ∷ []) a b c = absurd (false≢true b)
read_two (x ∷ (y ∷ t)) a b c = read_by (x ∷ (y ∷ t)) 2 (10 * (x - 48) + (y - 48)) (simp (a, b, c)) (omega arith)

pub read_three : (t : List ℕ) → is_digit (byte_at t 0) ≡ true → is_digit (byte_at t 1) ≡ true → is_digit (byte_at t 2) ≡ true → Read t 3 (10 * (10 * (byte_at t 0 - 48) + (byte_at t 1 - 48)) + (byte_at t 2 - 48))
unfolding digits_up_to value_from
read_three [] a b c = absurd (false≢true a)
read_three (x ∷ []) a b c = absurd (false≢true b)
read_three (x ∷ (y ∷ [])) a b c = absurd (false≢true c)
read_three (x ∷ (y ∷ (z ∷ t))) a b c = read_by (x ∷ (y ∷ (z ∷ t))) 3 (10 * (10 * (x - 48) + (y - 48)) + (z - 48)) (simp (a, b, c)) (omega arith)

-- a line end has at most two bytes
pub end_few : (t : List ℕ) → end_in t ≤ 2
unfolding end_in
end_few t = go (eqb (byte_at t 0) 10) (eqb (byte_at t 0) 13 && eqb (byte_at t 1) 10)
  where
    go : (a b : Bool) → pick a 1 (pick b 2 0) ≤ 2
    go true b = omega arith
    go false true = omega arith
    go false false = omega arith

-- one line more, after n
pub record OneMore (n : ℕ) (t : List ℕ) (b : Line) : Type 0 where
  pub ok : (lines_in (suc n) t).ok ≡ ((lines_in n t).ok && b.ok)
  pub steps : (lines_in (suc n) t).steps ≡ (lines_in n t).steps ++ (b.read ∷ [])
  pub size : (lines_in (suc n) t).size ≡ (lines_in n t).size + b.size

pub one_more : (n : ℕ) (t : List ℕ) → OneMore n t (line_in (drop (lines_in n t).size t))
unfolding lines_in
one_more zero t = record { ok = and-true (line_in t).ok; steps = refl; size = omega arith }
one_more (suc n) t =
    let a = line_in t in
    let u = drop a.size t in
    let c = lines_in n u in
    let w = one_more n u in
    let q : drop c.size u ≡ drop (a.size + c.size) t = drop-drop c.size a.size t in
    record {
      ok = ap (λ (x : Bool). a.ok && x) w.ok ∙ sym (and_assoc a.ok c.ok (line_in (drop c.size u)).ok) ∙ ap (λ (x : List ℕ). (a.ok && c.ok) && (line_in x).ok) q;
      steps = ap (λ (x : List Step). a.read ∷ x) w.steps ∙ ap (λ (x : List ℕ). a.read ∷ (c.steps ++ ((line_in x).read ∷ []))) q;
      size = omega (arith, w.size, ap (λ (x : List ℕ). (line_in x).size) q);
    }

-- a line that is none ends the reading
pub stays_bad : (n m : ℕ) (t : List ℕ) → (lines_in n t).ok ≡ false → (lines_in (n + m) t).ok ≡ false
stays_bad n zero t h = let e : n + 0 ≡ n = omega arith in ap (λ (k : ℕ). (lines_in k t).ok) e ∙ h
stays_bad n (suc m) t h =
    let e : n + suc m ≡ suc (n + m) = omega arith in
    ap (λ (k : ℕ). (lines_in k t).ok) e ∙ (one_more (n + m) t).ok ∙ ap (λ (x : Bool). x && (line_in (drop (lines_in (n + m) t).size t)).ok) (stays_bad n m t h)

-- n lines name n steps
pub lines_count : (n : ℕ) (t : List ℕ) → length (lines_in n t).steps ≡ n
unfolding lines_in
lines_count zero t = refl
lines_count (suc n) t = ap suc (lines_count n (drop (line_in t).size t))

pub steps_count : (p : ℕ) (t : List ℕ) → length (steps_read p t) ≡ p
unfolding steps_read
steps_count p t = lines_count p (drop (names_size t) t)

-- The steps as 3 × p bytes: the judge reads them back.
pub bytes_steps : (ss : List Step) → steps_in (length ss) (step_bytes ss) ≡ ss
unfolding steps_in step_bytes
bytes_steps [] = refl
bytes_steps (s ∷ ss) = ap (λ (x : List Step). s ∷ x) (bytes_steps ss)

pub bytes_length : (ss : List Step) → length (step_bytes ss) ≡ 3 * length ss
unfolding step_bytes
bytes_length [] = refl
bytes_length (s ∷ ss) = omega (arith, bytes_length ss)

-- one step more
pub bytes_more : (ss : List Step) (s : Step) → step_bytes (ss ++ (s ∷ [])) ≡ step_bytes ss ++ (s.row ∷ (s.kind ∷ (s.number ∷ [])))
unfolding step_bytes
bytes_more [] s = refl
bytes_more (x ∷ ss) s = ap (λ (l : List ℕ). x.row ∷ (x.kind ∷ (x.number ∷ l))) (bytes_more ss s)

pub line_few : (t : List ℕ) → (line_in t).size ≤ 11
unfolding line_in
line_few t = omega (arith, digits_few 3 t, digits_few 3 (after_set t), end_few (after_number t))

pub lines_few : (n : ℕ) (t : List ℕ) → (lines_in n t).size ≤ 11 * n
unfolding lines_in
lines_few zero t = omega arith
lines_few (suc n) t = omega (arith, line_few t, lines_few n (drop (line_in t).size t))

kind_few : (b : ℕ) → kind_of b ≤ 1
kind_few b = go (is_in b (82 ∷ (114 ∷ [])))
  where
    go : (x : Bool) → pick x 0 1 ≤ 1
    go true = omega arith
    go false = omega arith

number_small : (t : List ℕ) → is_number t ≡ true → number_in t ≤ 255
unfolding is_number
number_small t h = leb-true (number_in t) 255 (and_r (leb 1 (digits_in t)) (leb (number_in t) 255) h)

-- what a line names is a byte each
pub record SmallStep (s : Step) : Type 0 where
  pub row : s.row ≤ 255
  pub kind : s.kind ≤ 1
  pub number : s.number ≤ 255

pub line_small : (t : List ℕ) → (line_in t).ok ≡ true → SmallStep (line_in t).read
unfolding line_in
line_small t h =
    let h₁ = and_r (is_number t) _ h in
    let h₂ = and_r (is_set (after_row t)) _ h₁ in
    record { row = number_small t (and_l (is_number t) _ h); kind = kind_few (byte_at (after_row t) 1); number = number_small (after_set t) (and_l (is_number (after_set t)) _ h₂) }
