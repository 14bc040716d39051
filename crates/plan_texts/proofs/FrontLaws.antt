-- What a prefix at the front of a text says of the definitions' tests: the letter of a set between
-- commas, the line end, the names.
use mathlib.Core.Path.{◌≡◌, refl, sym, ap, ap₂, ◌∙◌}
use mathlib.Core.Bool.{Bool, true, false, ◌&&◌, and-true, and-false}
use mathlib.Core.List.{List, [], ◌∷◌}
use Prim.Native.Nat.{ℕ, ◌+◌}
use native.Mathlib.Omega.{arith}
use lib.Dec.{eqb, leb}
use lib.Pointwise.{pointwise}
use lib.ListN.{length, take, drop, length-drop, get_or-eq_default}
use lib.Seq.{drop-drop}
use Rattle.std.specs.Option.{option_or}
use Rattle.std.specs.Prelude.{Option, Some, None, MatchOption}
use Rattle.std.specs.Borrow.{Bor}
use Rattle.mathematics.specs.Choice.{pick}
use Rattle.plan_texts.specs.Form.Reading.{byte_at, is_letter, kind_of, is_set, end_in}
use Rattle.plan_texts.proofs.Form.StepwiseLaws.{after}
use Rattle.plan_texts.specs.ReaderSays.{SetReads, EndReads}

-- a text has the prefix
abbrev pub starts : List ℕ → List ℕ → Bool
starts x t = pointwise eqb (take (length x) t) x

-- a comma, a letter, a comma
abbrev pub comma : List ℕ
comma = 44 ∷ []

pub set_tests : (t : List ℕ) → is_set t ≡ (starts comma t && (is_letter (byte_at t 1) && starts comma (drop 2 t)))
unfolding is_set
set_tests [] = refl
set_tests (a ∷ []) = and-false (eqb a 44) ∙ sym (and-false (eqb a 44 && true))
set_tests (a ∷ (b ∷ [])) = ap (λ (x : Bool). x && (is_letter b && false)) (sym (and-true (eqb a 44)))
set_tests (a ∷ (b ∷ (c ∷ t))) = ap₂ (λ (x y : Bool). x && (is_letter b && y)) (sym (and-true (eqb a 44))) (sym (and-true (eqb c 44)))

pub set_first : (t : List ℕ) → starts comma t ≡ false → is_set t ≡ false
set_first t h = set_tests t ∙ ap (λ (x : Bool). x && (is_letter (byte_at t 1) && starts comma (drop 2 t))) h

-- u is what follows the first comma
module _ (t u : List ℕ) (first : starts comma t ≡ true) (e : u ≡ drop 1 t) where
  letter_tests : is_set t ≡ (is_letter (byte_at t 1) && starts comma (drop 2 t))
  letter_tests = set_tests t ∙ ap (λ (x : Bool). x && (is_letter (byte_at t 1) && starts comma (drop 2 t))) first

  pub set_short : length u ≡ 0 → is_set t ≡ false
  set_short h = letter_tests ∙ ap (λ (b : ℕ). is_letter b && starts comma (drop 2 t)) (get_or-eq_default t 0 (omega (arith, h, ap length e, length-drop 1 t)))

  -- b is the letter, and v follows it
  module _ (b : ℕ) (v : List ℕ) (q : u ≡ b ∷ v) where
    letter : byte_at t 1 ≡ b
    letter = after t 1 0 ∙ ap (λ (x : List ℕ). byte_at x 0) (sym e ∙ q)

    behind : drop 2 t ≡ v
    behind = sym (drop-drop 1 1 t) ∙ ap (drop 1) (sym e ∙ q)

    set_tested : is_set t ≡ (is_letter b && starts comma v)
    set_tested = letter_tests ∙ ap₂ (λ (x : ℕ) (y : List ℕ). is_letter x && starts comma y) letter behind

    pub set_no_letter : is_letter b ≡ false → is_set t ≡ false
    set_no_letter h = set_tested ∙ ap (λ (x : Bool). x && starts comma v) h

    pub set_no_comma : starts comma v ≡ false → is_set t ≡ false
    set_no_comma h = set_tested ∙ ap (λ (x : Bool). is_letter b && x) h ∙ and-false (is_letter b)

    pub set_reads : (k : ℕ) (w : Bor (List ℕ)) → is_letter b ≡ true → k ≡ kind_of b → starts comma v ≡ true → w.now ≡ drop 1 v → SetReads t (Some (k, w))
    set_reads k w h g f r = (set_tested ∙ ap₂ (λ (x y : Bool). x && y) h f, (g ∙ ap kind_of (sym letter), r ∙ ap (drop 1) (sym behind) ∙ drop-drop 1 2 t))

-- the line end: LF, else CR LF, else none
abbrev pub line_feed : List ℕ
line_feed = 10 ∷ []

abbrev pub both_ends : List ℕ
both_ends = 13 ∷ (10 ∷ [])

end_tests : (t : List ℕ) → end_in t ≡ pick (starts line_feed t) 1 (pick (starts both_ends t) 2 0)
unfolding end_in
end_tests [] = refl
end_tests (a ∷ []) = ap₂ (λ (x y : Bool). pick x 1 (pick y 2 0)) (sym (and-true (eqb a 10))) refl
end_tests (a ∷ (b ∷ t)) = ap₂ (λ (x y : Bool). pick x 1 (pick (eqb a 13 && y) 2 0)) (sym (and-true (eqb a 10))) (sym (and-true (eqb b 10)))

-- what `strip_prefix` gives
abbrev pub Strips : List ℕ → List ℕ → Option (Bor (List ℕ)) → Type 0
Strips x t r = MatchOption r (starts x t ≡ false) (λ u. (starts x t ≡ true) × (u.now ≡ drop (length x) t) × (length u.now + length x ≡ length t))

pub end_reads : (t : List ℕ) (a b : Option (Bor (List ℕ))) → Strips line_feed t a → Strips both_ends t b → EndReads t (option_or a b)
end_reads t (Some u) b h k =
    let e : end_in t ≡ 1 = end_tests t ∙ ap (λ (x : Bool). pick x 1 (pick (starts both_ends t) 2 0)) h.0 in
    (ap (leb 1) e, h.1 ∙ ap (λ (n : ℕ). drop n t) (sym e))
end_reads t None (Some u) h k =
    let e : end_in t ≡ 2 = end_tests t ∙ ap₂ (λ (x y : Bool). pick x 1 (pick y 2 0)) h k.0 in
    (ap (leb 1) e, k.1 ∙ ap (λ (n : ℕ). drop n t) (sym e))
end_reads t None None h k = ap (leb 1) (end_tests t ∙ ap₂ (λ (x y : Bool). pick x 1 (pick y 2 0)) h k)
