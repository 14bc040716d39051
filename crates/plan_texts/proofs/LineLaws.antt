-- A line from its parts, one behind the other. The loop over the lines: after i lines their steps
-- are the plan's bytes, and the next line begins behind them. The whole text from its names, their
-- line end and the lines.
use mathlib.Core.Path.{◌≡◌, refl, sym, ap, ap₂, ◌∙◌}
use mathlib.Core.Bool.{Bool, true, false, ◌&&◌, and-false, false≢true}
use mathlib.Core.List.{List, [], ◌∷◌, ◌++◌}
use mathlib.Core.Logic.{⊎_elim}
use Prim.Native.Nat.{ℕ, zero, suc, ◌+◌, ◌-◌, ◌*◌, ◌≤◌, ◌<◌}
use native.Mathlib.Numerals.{add-one}
use native.Mathlib.Omega.{arith}
use lib.Dec.{eqb, leb}
use lib.ListN.{length, take, drop, length-drop, length-take}
use lib.Seq.{drop-drop}
use lib.Pointwise.{pointwise_long}
use borrow.Author.Tests.{eq-eqb, ne_eqb, eqb-true, eqb-false}
use Rattle.std.specs.Prelude.{Option, Some, None}
use Rattle.std.specs.Borrow.{Bor}
use Rattle.mathematics.specs.Choice.{pick}
use Rattle.mathematics.specs.Lists.{same}
use Rattle.mathematics.proofs.Flags.{and_l, and_r, and_i, flag}
use Rattle.plan_texts.specs.Form.Reading.{byte_at, digits_in, number_in, is_number, is_letter, end_in, is_set, kind_of, after_row, after_set, after_number, line_in, lines_in, names, names_size, is_names, readable, steps_read, step_bytes}
use Rattle.plan_texts.proofs.Form.StepwiseLaws.{end_few, lines_count, one_more, stays_bad, bytes_length, bytes_more}
use Rattle.plan_texts.specs.ReaderSays.{LineReads, LinesRead, ParseSays}
use Rattle.plan_texts.proofs.ReadLoops.{digits_fit}
use Rattle.text.proofs.CompareLaws.{compared}
use Rattle.plan_texts.proofs.FrontLaws.{starts}

-- The parts of a line: u follows the row, v the set, w the number.
module _ (t : List ℕ) where
  pub no_row : is_number t ≡ false → (line_in t).ok ≡ false
  unfolding line_in
  no_row h = ap (λ (x : Bool). x && (is_set (after_row t) && (is_number (after_set t) && leb 1 (end_in (after_number t))))) h

  module _ (row : is_number t ≡ true) (u : List ℕ) (a : u ≡ drop (digits_in t) t) where
    pub no_set : is_set u ≡ false → (line_in t).ok ≡ false
    unfolding line_in
    no_set h = ap₂ (λ (x y : Bool). x && (y && (is_number (after_set t) && leb 1 (end_in (after_number t))))) row (ap is_set (sym a) ∙ h)

    module _ (set : is_set u ≡ true) (v : List ℕ) (b : v ≡ drop 3 u) where
      after_set_lem : v ≡ after_set t
      after_set_lem = b ∙ ap (drop 3) a

      rest_tests : (line_in t).ok ≡ (is_number v && leb 1 (end_in (after_number t)))
      unfolding line_in
      rest_tests = (λ j. row j && ((ap is_set (sym a) ∙ set) j && (is_number (sym after_set_lem j) && leb 1 (end_in (after_number t)))))

      pub no_last : is_number v ≡ false → (line_in t).ok ≡ false
      no_last h = rest_tests ∙ ap (λ (x : Bool). x && leb 1 (end_in (after_number t))) h

      module _ (last : is_number v ≡ true) (w : List ℕ) (c : w ≡ drop (digits_in v) v) where
        after_number_lem : w ≡ after_number t
        after_number_lem = c ∙ ap (λ (x : List ℕ). drop (digits_in x) x) after_set_lem

        end_tests : (line_in t).ok ≡ leb 1 (end_in w)
        end_tests = rest_tests ∙ ap₂ (λ (x : Bool) (y : List ℕ). x && leb 1 (end_in y)) last (sym after_number_lem)

        pub no_end : leb 1 (end_in w) ≡ false → (line_in t).ok ≡ false
        no_end h = end_tests ∙ h

        behind : drop (end_in w) w ≡ drop (line_in t).size t
        unfolding line_in
        behind =
            let r = digits_in t in
            let n = digits_in (after_set t) in
            let e = end_in (after_number t) in
            let q : r + 3 + n + e ≡ r + (3 + (n + e)) = omega arith in
            ap (λ (x : List ℕ). drop (end_in x) x) after_number_lem
            ∙ ap (drop e) (ap (drop n) (drop-drop 3 r t) ∙ drop-drop n (r + 3) t)
            ∙ drop-drop e (r + 3 + n) t
            ∙ ap (λ (m : ℕ). drop m t) q

        pub line_reads : (i k n : ℕ) (x : Bor (List ℕ)) → i ≡ number_in t → k ≡ kind_of (byte_at u 1) → n ≡ number_in v → leb 1 (end_in w) ≡ true → x.now ≡ drop (end_in w) w → LineReads t (Some (i ∷ (k ∷ (n ∷ [])), x))
        unfolding line_in step_bytes
        line_reads i k n x e f g h r =
            (end_tests ∙ h, (λ j. e j ∷ ((f ∙ ap (λ (y : List ℕ). kind_of (byte_at y 1)) a) j ∷ ((g ∙ ap number_in after_set_lem) j ∷ [])), r ∙ behind))

-- What is read is there: no part reaches past the end.
set_fits : (t : List ℕ) → is_set t ≡ true → 3 ≤ length t
unfolding is_set
set_fits [] h = absurd (false≢true h)
set_fits (a ∷ []) h = absurd (false≢true (sym (and-false (eqb a 44)) ∙ h))
set_fits (a ∷ (b ∷ [])) h = absurd (false≢true (sym (and-false (is_letter b)) ∙ and_r (eqb a 44) _ h))
set_fits (a ∷ (b ∷ (c ∷ t))) h = omega arith

end_fits : (t : List ℕ) → end_in t ≤ length t
unfolding end_in
end_fits [] = omega arith
end_fits (a ∷ []) = go (eqb a 10) (eqb a 13)
  where
    go : (x y : Bool) → pick x 1 (pick (y && false) 2 0) ≤ 1
    go true y = omega arith
    go false true = omega arith
    go false false = omega arith
end_fits (a ∷ (b ∷ t)) = omega (arith, end_few (a ∷ (b ∷ t)))

line_fits : (t : List ℕ) → (line_in t).ok ≡ true → (line_in t).size ≤ length t
unfolding line_in
line_fits t h =
    let s = set_fits (after_row t) (and_l (is_set (after_row t)) _ (and_r (is_number t) _ h)) in
    omega (
      arith,
      s,
      digits_fit t,
      length-drop (digits_in t) t,
      length-drop 3 (after_row t),
      digits_fit (after_set t),
      length-drop (digits_in (after_set t)) (after_set t),
      end_fits (after_number t),
    )

lines_fit : (n : ℕ) (t : List ℕ) → (lines_in n t).ok ≡ true → (lines_in n t).size ≤ length t
unfolding lines_in
lines_fit zero t h = omega arith
lines_fit (suc n) t h =
    let a = line_in t in
    let u = drop a.size t in
    omega (arith, line_fits t (and_l a.ok (lines_in n u).ok h), lines_fit n u (and_r a.ok (lines_in n u).ok h), length-drop a.size t)

-- The loop's state before line i.
pub record Halfway (t plan rest : List ℕ) (i : ℕ) : Type 0 where
  pub ok : (lines_in i t).ok ≡ true
  pub bytes : plan ≡ step_bytes (lines_in i t).steps
  pub behind : rest ≡ drop (lines_in i t).size t

pub halfway_start : (t : List ℕ) → Halfway t [] t 0
unfolding lines_in step_bytes
halfway_start t = record { ok = refl; bytes = refl; behind = refl }

module _ {t plan rest : List ℕ} {i : ℕ} (k : Halfway t plan rest i) where
  -- three bytes a line
  pub halfway_long : length plan ≡ 3 * i
  halfway_long = omega (arith, ap length k.bytes, bytes_length (lines_in i t).steps, lines_count i t)

  pub halfway_turn : {x u : List ℕ} → (line_in rest).ok ≡ true → x ≡ step_bytes ((line_in rest).read ∷ []) → u ≡ drop (line_in rest).size rest → Halfway t (plan ++ x) u (i + 1)
  unfolding step_bytes
  halfway_turn o e r =
      let w = one_more i t in
      let q : i + 1 ≡ suc i = add-one i in
      let here = k.behind in
      record {
        ok = ap (λ (n : ℕ). (lines_in n t).ok) q ∙ w.ok ∙ and_i _ _ k.ok (ap (λ (y : List ℕ). (line_in y).ok) (sym here) ∙ o);
        bytes = ap₂ (λ (y z : List ℕ). y ++ z) k.bytes (e ∙ ap (λ (y : List ℕ). step_bytes ((line_in y).read ∷ [])) here) ∙ sym (bytes_more (lines_in i t).steps (line_in (drop (lines_in i t).size t)).read) ∙ ap step_bytes (sym (ap (λ (n : ℕ). (lines_in n t).steps) q ∙ w.steps));
        behind = r ∙ ap (λ (y : List ℕ). drop (line_in y).size y) here ∙ drop-drop (line_in (drop (lines_in i t).size t)).size (lines_in i t).size t ∙ ap (λ (n : ℕ). drop n t) (sym (ap (λ (n : ℕ). (lines_in n t).size) q ∙ w.size));
      }

  -- a line that is none: nothing is read
  pub halfway_bad : (p : ℕ) → i < p → (line_in rest).ok ≡ false → LinesRead p t None
  halfway_bad p h o =
      let e : suc i + (p - suc i) ≡ p = omega arith in
      let here : (lines_in (suc i) t).ok ≡ false = (one_more i t).ok ∙ ap (λ (y : List ℕ). (lines_in i t).ok && (line_in y).ok) (sym k.behind) ∙ ap (λ (y : Bool). (lines_in i t).ok && y) o ∙ and-false (lines_in i t).ok in
      let no : (lines_in p t).ok ≡ false = ap (λ (n : ℕ). (lines_in n t).ok) (sym e) ∙ stays_bad (suc i) (p - suc i) t here in
      ap (λ (y : Bool). y && eqb (lines_in p t).size (length t)) no

  -- all lines are read, and the text ends behind them
  pub halfway_end : length rest ≡ 0 → LinesRead i t (Some plan)
  halfway_end z = (and_i _ _ k.ok (eq-eqb (lines_in i t).size (length t) (omega (arith, z, ap length k.behind, length-drop (lines_in i t).size t, lines_fit i t k.ok))), k.bytes)

-- two tests of numbers that are equal together
eqb_both : (a b c d : ℕ) → (a ≡ b → c ≡ d) → (c ≡ d → a ≡ b) → eqb c d ≡ eqb a b
eqb_both a b c d f g = ⊎_elim (λ e. eq-eqb c d (f (eqb-true a b e)) ∙ sym e) (λ e. ne_eqb c d (λ q. eqb-false a b e (g q)) ∙ sym e) (flag (eqb a b))

-- The whole text: the names, their line end, the lines. u follows the names, and v the line end.
module _ (p : ℕ) (t : List ℕ) where
  pub no_names : starts names t ≡ false → readable p t ≡ false
  unfolding readable
  no_names h =
      let rest = lines_in p (drop (names_size t) t) in
      ap (λ (y : Bool). (y && leb 1 (end_in (drop 14 t))) && (rest.ok && eqb (names_size t + rest.size) (length t))) (sym (compared (take 14 t) names) ∙ h)

  module _ (named : starts names t ≡ true) (u : List ℕ) (a : u ≡ drop 14 t) where
    pub no_names_end : leb 1 (end_in u) ≡ false → readable p t ≡ false
    unfolding readable
    no_names_end h =
        let rest = lines_in p (drop (names_size t) t) in
        ap (λ (y : Bool). (same (take 14 t) names && y) && (rest.ok && eqb (names_size t + rest.size) (length t))) (ap (λ (x : List ℕ). leb 1 (end_in x)) (sym a) ∙ h)
        ∙ ap (λ (y : Bool). y && (rest.ok && eqb (names_size t + rest.size) (length t))) (and-false (same (take 14 t) names))

    module _ (ended : leb 1 (end_in u) ≡ true) (v : List ℕ) (b : v ≡ drop (end_in u) u) where
      begin : v ≡ drop (names_size t) t
      begin = b ∙ ap (λ (x : List ℕ). drop (end_in x) x) a ∙ drop-drop (end_in (drop 14 t)) 14 t

      names_fit : names_size t ≤ length t
      names_fit = omega (arith, pointwise_long eqb (take 14 t) names named, length-take 14 t, length-drop 14 t, end_fits (drop 14 t))

      tests : readable p t ≡ ((lines_in p v).ok && eqb (lines_in p v).size (length v))
      unfolding readable
      tests =
          let m = names_size t in
          let rest = lines_in p (drop m t) in
          let head : is_names t ≡ true = and_i _ _ (sym (compared (take 14 t) names) ∙ named) (ap (λ (x : List ℕ). leb 1 (end_in x)) (sym a) ∙ ended) in
          let long = length-drop m t in
          ap (λ (y : Bool). y && (rest.ok && eqb (m + rest.size) (length t))) head
          ∙ ap (λ (y : Bool). rest.ok && y) (eqb_both rest.size (length (drop m t)) (m + rest.size) (length t) (λ e. omega (arith, e, long, names_fit)) (λ e. omega (arith, e, long, names_fit)))
          ∙ ap (λ (x : List ℕ). (lines_in p x).ok && eqb (lines_in p x).size (length x)) (sym begin)

      pub all_read : (r : Option (List ℕ)) → LinesRead p v r → ParseSays p t r
      unfolding steps_read
      all_read None h = tests ∙ h
      all_read (Some x) h = (tests ∙ h.0, h.1 ∙ ap (λ (y : List ℕ). step_bytes (lines_in p y).steps) begin)

-- fewer bytes are not the names
pub names_short : (t : List ℕ) → length t < 14 → false ≡ same (take 14 t) names
names_short t h = ⊎_elim (λ e. absurd (omega (arith, pointwise_long eqb (take 14 t) names (compared (take 14 t) names ∙ e), length-take 14 t))) sym (flag (same (take 14 t) names))
