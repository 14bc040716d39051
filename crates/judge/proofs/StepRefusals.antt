-- One step of a plan: which lost cells of its set are there, and its refusal from the tests.
use mathlib.Core.Path.{◌≡◌, refl, sym, ap, ap₂, ◌∙◌}
use mathlib.Core.Bool.{Bool, true, false, ◌&&◌, ◌||◌, not}
use mathlib.Core.List.{List, [], ◌∷◌}
use Prim.Native.Nat.{ℕ, ◌≤◌, ◌<◌}
use native.Mathlib.Nat.{mod-lt}
use native.Mathlib.Omega.{arith}
use lib.Dec.{eqb, ltb}
use lib.ListN.{length, get_or, set}
use Rattle.std.proofs.lemmas.List.{get_or-set_same, get_or-set_other}
use borrow.Author.Tests.{eq-eqb, ne_eqb, eqb-true, eqb-false, lt-leb, le-ltb}
use Rattle.std.specs.List.{list_any, list_all}
use Rattle.mathematics.specs.Choice.{pick, when, first_of}
use Rattle.mathematics.specs.Lists.{is_in}
use Rattle.mathematics.proofs.Flags.{or_l}
use Rattle.mathematics.proofs.TestLaws.{eqb_sym}
use Rattle.liberation.specs.Sets.{row_at, disk_at, set_of, lost_in}
use Rattle.liberation.specs.Plans.{Step}
use Rattle.liberation.specs.Judging.{others_there, step_refusal}
use Rattle.judge.specs.Steps.{AreRebuilt, is_there, is_out_of_range}

-- of the cells xs, those on the lost disk are there, row r apart
abbrev pub there : ℕ → ℕ → ℕ → List ℕ → List ℕ → Bool
there p f r ds xs = others_there r (lost_in p f xs) ds

-- cell by cell
pub there_each : (p f r : ℕ) (rebuilt : List Bool) (ds xs : List ℕ) → 0 < p → p ≤ 31 → AreRebuilt rebuilt ds → list_all (is_there p f r rebuilt) xs ≡ there p f r ds xs
unfolding lost_in others_there
there_each p f r rebuilt ds [] h l d = refl
there_each p f r rebuilt ds (x ∷ xs) h l d = go (eqb (disk_at p x) f) (there_each p f r rebuilt ds xs h l d)
  where
    y : ℕ
    y = row_at p x

    go : (b : Bool) → list_all (is_there p f r rebuilt) xs ≡ there p f r ds xs → ((not b || (eqb y r || get_or rebuilt y false)) && list_all (is_there p f r rebuilt) xs) ≡ others_there r (pick b (y ∷ lost_in p f xs) (lost_in p f xs)) ds
    go true e = ap₂ (λ (a t : Bool). (eqb y r || a) && t) (d y (omega (arith, mod-lt x h, l))) e
    go false e = e

pub is_in_any : (w : ℕ) (xs : List ℕ) → list_any (λ x. eqb x w) xs ≡ is_in w xs
is_in_any w [] = refl
is_in_any w (x ∷ xs) = ap₂ (λ (a b : Bool). a || b) (eqb_sym x w) (is_in_any w xs)

-- one cell: on another disk, of the row itself, or of another row
pub elsewhere : (p f r x : ℕ) (rebuilt : List Bool) → (disk_at p x ≡ f → ⊥) → is_there p f r rebuilt x ≡ true
elsewhere p f r x rebuilt n = ap (λ (b : Bool). not b || (eqb (row_at p x) r || get_or rebuilt (row_at p x) false)) (ne_eqb (disk_at p x) f n)

here : (p f r x y : ℕ) (rebuilt : List Bool) → disk_at p x ≡ f → y ≡ row_at p x → is_there p f r rebuilt x ≡ (eqb y r || get_or rebuilt y false)
here p f r x y rebuilt e q = ap₂ (λ (b : Bool) (k : ℕ). not b || (eqb k r || get_or rebuilt k false)) (eq-eqb (disk_at p x) f e) (sym q)

pub itself : (p f r x y : ℕ) (rebuilt : List Bool) → disk_at p x ≡ f → y ≡ row_at p x → y ≡ r → is_there p f r rebuilt x ≡ eqb y r
itself p f r x y rebuilt e q n = here p f r x y rebuilt e q ∙ or_l (eqb y r) (get_or rebuilt y false) (eq-eqb y r n) ∙ sym (eq-eqb y r n)

pub another : (p f r x y : ℕ) (rebuilt : List Bool) → disk_at p x ≡ f → y ≡ row_at p x → (y ≡ r → ⊥) → is_there p f r rebuilt x ≡ get_or rebuilt y false
another p f r x y rebuilt e q n = here p f r x y rebuilt e q ∙ ap (λ (b : Bool). b || get_or rebuilt y false) (ne_eqb y r n)

-- one row more
pub rebuilt_more : (rebuilt : List Bool) (ds : List ℕ) (r : ℕ) → length rebuilt ≡ 31 → r < 31 → AreRebuilt rebuilt ds → AreRebuilt (set rebuilt r true) (r ∷ ds)
rebuilt_more rebuilt ds r e h d x l = go (eqb x r) refl
  where
    go : (b : Bool) → eqb x r ≡ b → get_or (set rebuilt r true) x false ≡ (b || is_in x ds)
    go true t = ap (λ (k : ℕ). get_or (set rebuilt r true) k false) (eqb-true x r t) ∙ get_or-set_same rebuilt r true false (omega (arith, e, h))
    go false t = get_or-set_other rebuilt r x true false (eqb-false x r t) ∙ d x l

-- past refusal 6
in_range : (p : ℕ) (s : Step) → s.row < p → s.number < p → s.kind ≤ 1 → is_out_of_range p s ≡ false
in_range p s h l m =
    ap₂ (λ (x y : Bool). x || (y || ltb 1 s.kind)) (lt-leb p s.row h) (lt-leb p s.number l) ∙ le-ltb 1 s.kind m

-- a step's refusal from its tests
pub refusal_is : (p k f : ℕ) (ds : List ℕ) (s : Step) (b c d : Bool) → s.row < p → s.number < p → s.kind ≤ 1 → b ≡ is_in s.row (lost_in p f (set_of p k s.kind s.number)) → c ≡ is_in s.row ds → d ≡ there p f s.row ds (set_of p k s.kind s.number) → first_of (when (not b) 7) (first_of (when c 8) (when (not d) 9)) ≡ step_refusal p k f ds s
unfolding step_refusal
refusal_is p k f ds s b c d h l m eb ec ed =
    sym (
    ap₂ (λ (x y : Bool). first_of (when x 6) (first_of (when (not y) 7) (first_of (when (is_in s.row ds) 8) (when (not (there p f s.row ds (set_of p k s.kind s.number))) 9)))) (in_range p s h l m) (sym eb)
    ∙ ap₂ (λ (x y : Bool). first_of (when (not b) 7) (first_of (when x 8) (when (not y) 9))) (sym ec) (sym ed)
    )

-- a step that is out of range
pub refusal_6 : (p k f : ℕ) (ds : List ℕ) (s : Step) → is_out_of_range p s ≡ true → 6 ≡ step_refusal p k f ds s
unfolding step_refusal
refusal_6 p k f ds s e =
    let xs = lost_in p f (set_of p k s.kind s.number) in
    sym (ap (λ (x : Bool). first_of (when x 6) (first_of (when (not (is_in s.row xs)) 7) (first_of (when (is_in s.row ds) 8) (when (not (others_there s.row xs ds)) 9)))) e)
