-- Every text of the form is read, and its steps are those that it was put together from.
use mathlib.Core.Path.{◌≡◌, refl, sym, ap, ap₂, ◌∙◌}
use mathlib.Core.Bool.{true, false}
use mathlib.Core.List.{List, [], ◌∷◌, ◌++◌, append_assoc, append-nil}
use Prim.Native.Nat.{ℕ, suc, ◌+◌, ◌≤◌}
use native.Mathlib.Omega.{arith}
use lib.Dec.{leb}
use lib.ListN.{length, drop, length-append}
use lib.Seq.{drop-append_seam}
use borrow.Author.Tests.{eq-eqb}
use Rattle.mathematics.proofs.Flags.{and_i}
use Rattle.liberation.specs.Plans.{Step, step}
use Rattle.plan_texts.specs.Form.Reading.{byte_at, digits_in, number_in, is_number, is_digit, end_in, is_set, kind_of, after_row, after_set, after_number, line_in, lines_in, names, names_size, is_names, readable, steps_read}
use Rattle.plan_texts.specs.Form.Form.{NumberText, LetterText, capital_r, small_r, capital_d, small_d, EndText, lf, cr_lf, LineText, line, LinesText, none, next, PlanText, text}
use Rattle.plan_texts.proofs.Form.NumberLaws.{number_size, number_value, number_is, number_rest}

-- a line end, whatever follows it
pub end_size : {e : List ℕ} (t : List ℕ) → EndText e → end_in (e ++ t) ≡ length e
unfolding end_in
end_size t lf = refl
end_size t cr_lf = refl

pub end_some : {e : List ℕ} (t : List ℕ) → EndText e → leb 1 (end_in (e ++ t)) ≡ true
unfolding end_in
end_some t lf = refl
end_some t cr_lf = refl

pub end_no_digit : {e : List ℕ} (t : List ℕ) → EndText e → is_digit (byte_at (e ++ t) 0) ≡ false
end_no_digit t lf = refl
end_no_digit t cr_lf = refl

-- a letter between commas
pub letter_set : {b kind : ℕ} (t : List ℕ) → LetterText b kind → is_set (44 ∷ (b ∷ (44 ∷ t))) ≡ true
unfolding is_set
letter_set t capital_r = refl
letter_set t small_r = refl
letter_set t capital_d = refl
letter_set t small_d = refl

pub letter_kind : {b kind : ℕ} → LetterText b kind → kind_of b ≡ kind
letter_kind capital_r = refl
letter_kind small_r = refl
letter_kind capital_d = refl
letter_kind small_d = refl

-- what is read of a line's text
pub record LineRead (t rest : List ℕ) (s : Step) : Type 0 where
  pub ok : (line_in (t ++ rest)).ok ≡ true
  pub read : (line_in (t ++ rest)).read ≡ s
  pub size : (line_in (t ++ rest)).size ≡ length t

-- its parts in their order: the row's digits ds, the letter b, the number's digits es, the end e,
-- and the rest
module _ {ds es e : List ℕ} {b row kind number : ℕ} (ka : NumberText ds row) (kb : LetterText b kind) (kc : NumberText es number) (ke : EndText e) (rest : List ℕ) where
  abbrev whole : List ℕ
  whole = ds ++ (44 ∷ (b ∷ (44 ∷ (es ++ (e ++ rest)))))

  parts : (ds ++ (44 ∷ (b ∷ (44 ∷ (es ++ e))))) ++ rest ≡ whole
  parts = simp append_assoc

  after_row_lem : after_row whole ≡ 44 ∷ (b ∷ (44 ∷ (es ++ (e ++ rest))))
  after_row_lem = number_rest (44 ∷ (b ∷ (44 ∷ (es ++ (e ++ rest))))) ka refl

  after_set_lem : after_set whole ≡ es ++ (e ++ rest)
  after_set_lem = ap (drop 3) after_row_lem

  after_number_lem : after_number whole ≡ e ++ rest
  after_number_lem = ap (λ (x : List ℕ). drop (digits_in x) x) after_set_lem ∙ number_rest (e ++ rest) kc (end_no_digit rest ke)

  whole_ok : (line_in whole).ok ≡ true
  unfolding line_in
  whole_ok =
      and_i _ _ (number_is (44 ∷ (b ∷ (44 ∷ (es ++ (e ++ rest))))) ka refl)
      (and_i _ _ (ap is_set after_row_lem ∙ letter_set (es ++ (e ++ rest)) kb)
      (and_i _ _ (ap is_number after_set_lem ∙ number_is (e ++ rest) kc (end_no_digit rest ke))
      (ap (λ (x : List ℕ). leb 1 (end_in x)) after_number_lem ∙ end_some rest ke)))

  whole_read : (line_in whole).read ≡ step row kind number
  unfolding line_in
  whole_read =
      ap₂ (λ (r t : ℕ). step r t (number_in (after_set whole))) (number_value (44 ∷ (b ∷ (44 ∷ (es ++ (e ++ rest))))) ka refl) (ap (λ (x : List ℕ). kind_of (byte_at x 1)) after_row_lem ∙ letter_kind kb)
      ∙ ap (λ (n : ℕ). step row kind n) (ap number_in after_set_lem ∙ number_value (e ++ rest) kc (end_no_digit rest ke))

  whole_size : (line_in whole).size ≡ length (ds ++ (44 ∷ (b ∷ (44 ∷ (es ++ e)))))
  unfolding line_in
  whole_size =
      omega (
        arith,
        number_size (44 ∷ (b ∷ (44 ∷ (es ++ (e ++ rest))))) ka refl,
        ap digits_in after_set_lem ∙ number_size (e ++ rest) kc (end_no_digit rest ke),
        ap end_in after_number_lem ∙ end_size rest ke,
        length-append ds (44 ∷ (b ∷ (44 ∷ (es ++ e)))),
        length-append es e,
      )

pub line_read : {t : List ℕ} {s : Step} (rest : List ℕ) → LineText t s → LineRead t rest s
line_read rest (line ka kb kc ke) =
    let w = parts ka kb kc ke rest in
    record {
      ok = ap (λ (x : List ℕ). (line_in x).ok) w ∙ whole_ok ka kb kc ke rest;
      read = ap (λ (x : List ℕ). (line_in x).read) w ∙ whole_read ka kb kc ke rest;
      size = ap (λ (x : List ℕ). (line_in x).size) w ∙ whole_size ka kb kc ke rest;
    }

-- a line for each step
pub record LinesRead (t rest : List ℕ) (ss : List Step) : Type 0 where
  pub ok : (lines_in (length ss) (t ++ rest)).ok ≡ true
  pub steps : (lines_in (length ss) (t ++ rest)).steps ≡ ss
  pub size : (lines_in (length ss) (t ++ rest)).size ≡ length t

pub lines_read : {t : List ℕ} {ss : List Step} (rest : List ℕ) → LinesText t ss → LinesRead t rest ss
unfolding lines_in
lines_read rest none = record { ok = refl; steps = refl; size = refl }
lines_read rest (next {t} {u} {s} {ss} a more) =
    let w = line_read (u ++ rest) a in
    let ws = lines_read rest more in
    let q : (t ++ u) ++ rest ≡ t ++ (u ++ rest) = append_assoc t u rest in
    let d : drop (line_in (t ++ (u ++ rest))).size (t ++ (u ++ rest)) ≡ u ++ rest = ap (λ (n : ℕ). drop n (t ++ (u ++ rest))) w.size ∙ drop-append_seam t (u ++ rest) in
    record {
      ok = ap (λ (x : List ℕ). (lines_in (suc (length ss)) x).ok) q ∙ and_i _ _ w.ok (ap (λ (x : List ℕ). (lines_in (length ss) x).ok) d ∙ ws.ok);
      steps = ap (λ (x : List ℕ). (lines_in (suc (length ss)) x).steps) q ∙ ap₂ (λ (x : Step) (y : List Step). x ∷ y) w.read (ap (λ (x : List ℕ). (lines_in (length ss) x).steps) d ∙ ws.steps);
      size = ap (λ (x : List ℕ). (lines_in (suc (length ss)) x).size) q ∙ ap₂ ◌+◌ w.size (ap (λ (x : List ℕ). (lines_in (length ss) x).size) d ∙ ws.size) ∙ sym (length-append t u);
    }

-- the whole text
names_rest : {e : List ℕ} (u : List ℕ) → EndText e → drop (names_size (names ++ (e ++ u))) (names ++ (e ++ u)) ≡ u
unfolding end_in
names_rest u lf = refl
names_rest u cr_lf = refl

names_is : {e : List ℕ} (u : List ℕ) → EndText e → is_names (names ++ (e ++ u)) ≡ true
unfolding end_in
names_is u lf = refl
names_is u cr_lf = refl

names_size_lem : {e : List ℕ} (u : List ℕ) → EndText e → names_size (names ++ (e ++ u)) ≡ 14 + length e
names_size_lem u k = ap (λ (n : ℕ). 14 + n) (end_size u k)

pub text_steps : {t : List ℕ} {ss : List Step} → PlanText t ss → steps_read (length ss) t ≡ ss
unfolding steps_read
text_steps {ss = ss} (text {u = u} k ls) =
    ap (λ (x : List ℕ). (lines_in (length ss) x).steps) (names_rest u k ∙ sym (append-nil u)) ∙ (lines_read [] ls).steps

pub text_readable : {t : List ℕ} {ss : List Step} → PlanText t ss → readable (length ss) t ≡ true
unfolding readable
text_readable {ss = ss} (text {e} {u} k ls) =
    let d = names_rest u k ∙ sym (append-nil u) in
    let w = lines_read [] ls in
    let t = names ++ (e ++ u) in
    let b = lines_in (length ss) (drop (names_size t) t) in
    let z : b.size ≡ length u = ap (λ (x : List ℕ). (lines_in (length ss) x).size) d ∙ w.size in
    and_i _ _ (names_is u k)
    (and_i _ _ (ap (λ (x : List ℕ). (lines_in (length ss) x).ok) d ∙ w.ok)
    (eq-eqb (names_size t + b.size) (length t) (omega (arith, names_size_lem u k, z, length-append e u))))

-- A text names one list of steps, of one length: no text is read in two ways.
line_some : {t : List ℕ} {s : Step} → LineText t s → 1 ≤ length t
line_some (line {ds} {es} {e} {b} ka kb kc ke) = omega (arith, length-append ds (44 ∷ (b ∷ (44 ∷ (es ++ e)))))

lines_once : {t u : List ℕ} {ss rs : List Step} → LinesText t ss → LinesText u rs → t ≡ u → ss ≡ rs
lines_once none none q = refl
lines_once none (next {t} {u} b more) q = absurd (omega (arith, ap length q, length-append t u, line_some b))
lines_once (next {t} {u} a more) none q = absurd (omega (arith, ap length q, length-append t u, line_some a))
lines_once (next {t} {u} a more) (next {t = t'} {u = u'} b rest) q =
    let x = line_read u a in
    let y = line_read u' b in
    let l : length t ≡ length t' = sym x.size ∙ ap (λ (z : List ℕ). (line_in z).size) q ∙ y.size in
    ap₂ (λ (z : Step) (zs : List Step). z ∷ zs)
    (sym x.read ∙ ap (λ (z : List ℕ). (line_in z).read) q ∙ y.read)
    (lines_once more rest (sym (drop-append_seam t u) ∙ ap₂ drop l q ∙ drop-append_seam t' u'))

pub text_once : {t u : List ℕ} {ss rs : List Step} → PlanText t ss → PlanText u rs → t ≡ u → ss ≡ rs
text_once (text {u = u} k ls) (text {u = v} m rs) q =
    lines_once ls rs (sym (names_rest u k) ∙ ap (λ (z : List ℕ). drop (names_size z) z) q ∙ names_rest v m)
