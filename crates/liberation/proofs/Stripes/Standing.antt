-- Steps, each with all cells of its set known but the one that it writes. They change only lost
-- cells that did not stand before, and leave the XOR of every set that they name zero.
-- Two stripes that agree in the known cells of those sets agree in what is written; and a stripe in
-- which those sets have XOR zero is left as it is.
use mathlib.Core.Path.{◌≡◌, refl, sym, ap, ap₂, ◌∙◌}
use mathlib.Core.Bool.{Bool, true, false, ◌&&◌, ◌||◌, not, false≢true}
use mathlib.Core.Logic.{◌⊎◌, inl, inr, ⊎_elim}
use mathlib.Core.List.{List, [], ◌∷◌, ◌++◌}
use Prim.Native.Nat.{ℕ, ◌+◌, ◌*◌, ◌≤◌, ◌<◌}
use lib.Dec.{eqb}
use borrow.Author.Tests.{eqb-true, eqb-false, eq-eqb, not-true}
use Rattle.mathematics.specs.Lists.{is_in, distinct, all_below}
use Rattle.mathematics.proofs.Flags.{and_l, and_r, and_i, or_cases, or_l, or_r, clash}
use Rattle.mathematics.proofs.MemberLaws.{in_below, in_tail}
use Rattle.liberation.specs.Sets.{set_of}
use Rattle.liberation.proofs.SetLaws.{set_below}
use Rattle.liberation.proofs.DistinctLaws.{distinct_set}
use Rattle.liberation.specs.Stripes.Stripes.{cell_at, xor_over, is_stripe, clean, without, solved}
use Rattle.liberation.specs.Stripes.Steps.{CellStep, steps_done, known}
use Rattle.liberation.proofs.Stripes.OverLaws.{over_ext, in_without}
use Rattle.liberation.proofs.Stripes.Solving.{solved_long, solved_bytes, solved_cell, solved_other, solved_zero, solved_same, stripe_long_lem, stripe_bytes, stripe_of, SetZero, clean_at, stripes_equal}

-- a step whose set has no unknown cell but the one written
pub record Stands (p k : ℕ) (lost : ℕ → Bool) (done : List ℕ) (c : CellStep) : Type 0 where
  pub kind_below : c.kind ≤ 1
  pub number_below : c.number < p
  pub held : is_in c.cell (set_of p k c.kind c.number) ≡ true
  pub fresh : known lost done c.cell ≡ false
  pub others : (y : ℕ) → is_in y (set_of p k c.kind c.number) ≡ true → known lost (c.cell ∷ done) y ≡ true

pub data Standing (p k : ℕ) (lost : ℕ → Bool) : List ℕ → List CellStep → Type 0 where
  none : {done : List ℕ} → Standing p k lost done []
  next : {done : List ℕ} {c : CellStep} {cs : List CellStep} → Stands p k lost done c → Standing p k lost (c.cell ∷ done) cs → Standing p k lost done (c ∷ cs)

-- the cells that stand after the steps
unfoldable pub done_after : List ℕ → List CellStep → List ℕ
done_after done [] = done
done_after done (c ∷ cs) = done_after (c.cell ∷ done) cs

-- some step names this set
unfoldable pub names : ℕ → ℕ → List CellStep → Bool
names kind i [] = false
names kind i (c ∷ cs) = (eqb c.kind kind && eqb c.number i) || names kind i cs

-- some step's set holds the cell x
unfoldable pub in_sets : ℕ → ℕ → ℕ → List CellStep → Bool
in_sets p k x [] = false
in_sets p k x (c ∷ cs) = is_in x (set_of p k c.kind c.number) || in_sets p k x cs

pub standing_append : (p k : ℕ) (lost : ℕ → Bool) {done : List ℕ} {cs ds : List CellStep} → Standing p k lost done cs → Standing p k lost (done_after done cs) ds → Standing p k lost done (cs ++ ds)
unfolding done_after
standing_append p k lost none rest = rest
standing_append p k lost (next g ok) rest = next g (standing_append p k lost ok rest)

pub done_append : (done : List ℕ) (cs ds : List CellStep) → done_after done (cs ++ ds) ≡ done_after (done_after done cs) ds
unfolding done_after
done_append done [] ds = refl
done_append done (c ∷ cs) ds = done_append (c.cell ∷ done) cs ds

pub names_append : (kind i : ℕ) (cs ds : List CellStep) → (names kind i cs ≡ true) ⊎ (names kind i ds ≡ true) → names kind i (cs ++ ds) ≡ true
unfolding names
names_append kind i [] ds (inl h) = absurd (false≢true h)
names_append kind i [] ds (inr h) = h
names_append kind i (c ∷ cs) ds (inl h) =
    ⊎_elim
    (λ e. or_l (eqb c.kind kind && eqb c.number i) (names kind i (cs ++ ds)) e)
    (λ e. or_r (eqb c.kind kind && eqb c.number i) (names kind i (cs ++ ds)) (names_append kind i cs ds (inl e)))
    (or_cases (eqb c.kind kind && eqb c.number i) (names kind i cs) h)
names_append kind i (c ∷ cs) ds (inr h) = or_r (eqb c.kind kind && eqb c.number i) (names kind i (cs ++ ds)) (names_append kind i cs ds (inr h))

-- known with one cell more: that cell, or one known before
pub known_cases : (lost : ℕ → Bool) (x y : ℕ) (done : List ℕ) → known lost (x ∷ done) y ≡ true → (y ≡ x) ⊎ (known lost done y ≡ true)
known_cases lost x y done h = go (lost y) h
  where
    go : (t : Bool) → (not t || (eqb y x || is_in y done)) ≡ true → (y ≡ x) ⊎ ((not t || is_in y done) ≡ true)
    go true e = ⊎_elim (λ q. inl (eqb-true y x q)) (λ q. inr q) (or_cases _ _ e)
    go false e = inr refl

known_more : (lost : ℕ → Bool) (x y : ℕ) (done : List ℕ) → known lost done y ≡ true → known lost (x ∷ done) y ≡ true
known_more lost x y done h = go (lost y) h
  where
    go : (t : Bool) → (not t || is_in y done) ≡ true → (not t || (eqb y x || is_in y done)) ≡ true
    go true e = in_tail y x done e
    go false e = refl

-- what survives is known; with no cell written, nothing else is
pub off_known : (lost : ℕ → Bool) (y : ℕ) (done : List ℕ) → lost y ≡ false → known lost done y ≡ true
off_known lost y done e = ap (λ (t : Bool). not t || is_in y done) e

pub known_off : (lost : ℕ → Bool) (y : ℕ) → known lost [] y ≡ true → lost y ≡ false
known_off lost y h = go (lost y) h
  where
    go : (t : Bool) → (not t || false) ≡ true → t ≡ false
    go true e = sym e
    go false e = refl

-- the set that a step names, and the stripe after the step
abbrev set_by : ℕ → ℕ → CellStep → List ℕ
set_by p k c = set_of p k c.kind c.number

abbrev stepped : ℕ → ℕ → ℕ → CellStep → List ℕ → List ℕ
stepped p k s c t = solved s c.cell (set_by p k c) t

-- one step
module _ (p k s : ℕ) (lost : ℕ → Bool) (done : List ℕ) (c : CellStep) (g : Stands p k lost done c) where
  within : all_below (p * (k + 2)) (set_by p k c) ≡ true
  within = set_below p k c.kind c.number g.number_below

  once : distinct (set_by p k c) ≡ true
  once = distinct_set p k c.kind c.number g.number_below

  -- a known cell is not the one written
  apart : (y : ℕ) → known lost done y ≡ true → y ≡ c.cell → ⊥
  apart y h e = clash (known lost done y) h (ap (known lost done) e ∙ g.fresh)

  module _ (t : List ℕ) (stripe : is_stripe p k s t ≡ true) where
    step_stripe : is_stripe p k s (stepped p k s c t) ≡ true
    step_stripe =
        stripe_of p k s (stepped p k s c t)
        (solved_long (p * (k + 2)) s c.cell (set_by p k c) t (stripe_long_lem p k s t stripe) within g.held ∙ stripe_long_lem p k s t stripe)
        (solved_bytes (p * (k + 2)) s c.cell (set_by p k c) t (stripe_long_lem p k s t stripe) within g.held (stripe_bytes p k s t stripe))

    step_cell : cell_at s (stepped p k s c t) c.cell ≡ xor_over s (cell_at s t) (without c.cell (set_by p k c))
    step_cell = solved_cell (p * (k + 2)) s c.cell (set_by p k c) t (stripe_long_lem p k s t stripe) within g.held

    step_kept : (y : ℕ) → known lost done y ≡ true → cell_at s (stepped p k s c t) y ≡ cell_at s t y
    step_kept y h = solved_other (p * (k + 2)) s c.cell (set_by p k c) t (stripe_long_lem p k s t stripe) within g.held y (apart y h)

    step_zero : SetZero p k s (stepped p k s c t) c.kind c.number
    step_zero = solved_zero (p * (k + 2)) s c.cell (set_by p k c) t (stripe_long_lem p k s t stripe) within g.held once

    step_same : SetZero p k s t c.kind c.number → stepped p k s c t ≡ t
    step_same = solved_same (p * (k + 2)) s c.cell (set_by p k c) t (stripe_long_lem p k s t stripe) within g.held once (stripe_bytes p k s t stripe)

  -- two stripes that agree in the known cells of the set agree in the cell written, and where they
  -- did before
  step_agree :
      (t u : List ℕ) → is_stripe p k s t ≡ true → is_stripe p k s u ≡ true
      → ((y : ℕ) → y < p * (k + 2) → known lost done y ≡ true → is_in y (set_by p k c) ≡ true → cell_at s t y ≡ cell_at s u y)
      → (y : ℕ) → (known lost done y ≡ true → cell_at s t y ≡ cell_at s u y)
      → known lost (c.cell ∷ done) y ≡ true → cell_at s (stepped p k s c t) y ≡ cell_at s (stepped p k s c u) y
  step_agree t u ht hu read y old h = ⊎_elim written (λ e. step_kept t ht y e ∙ old e ∙ sym (step_kept u hu y e)) (known_cases lost c.cell y done h)
    where
      other : (z : ℕ) → is_in z (without c.cell (set_by p k c)) ≡ true → cell_at s t z ≡ cell_at s u z
      other z e =
          let both : (is_in z (set_by p k c) && not (eqb z c.cell)) ≡ true = sym (in_without c.cell z (set_by p k c)) ∙ e in
          let here : is_in z (set_by p k c) ≡ true = and_l _ _ both in
          ⊎_elim
          (λ q. absurd (eqb-false z c.cell (not-true (eqb z c.cell) (and_r (is_in z (set_by p k c)) (not (eqb z c.cell)) both)) q))
          (λ q. read z (in_below (p * (k + 2)) z (set_by p k c) within here) q here)
          (known_cases lost c.cell z done (g.others z here))

      written : y ≡ c.cell → cell_at s (stepped p k s c t) y ≡ cell_at s (stepped p k s c u) y
      written q =
          ap (cell_at s (stepped p k s c t)) q
          ∙ step_cell t ht
          ∙ over_ext s (cell_at s t) (cell_at s u) (without c.cell (set_by p k c)) other
          ∙ sym (step_cell u hu)
          ∙ sym (ap (cell_at s (stepped p k s c u)) q)

-- all steps
pub steps_stripe : (p k s : ℕ) (lost : ℕ → Bool) {done : List ℕ} {cs : List CellStep} → Standing p k lost done cs → (t : List ℕ) → is_stripe p k s t ≡ true → is_stripe p k s (steps_done p k s cs t) ≡ true
unfolding steps_done
steps_stripe p k s lost none t h = h
steps_stripe p k s lost (next {done} {c} {cs} g ok) t h = steps_stripe p k s lost ok (stepped p k s c t) (step_stripe p k s lost done c g t h)

-- a known cell is kept
pub steps_kept : (p k s : ℕ) (lost : ℕ → Bool) {done : List ℕ} {cs : List CellStep} → Standing p k lost done cs → (t : List ℕ) → is_stripe p k s t ≡ true → (y : ℕ) → known lost done y ≡ true → cell_at s (steps_done p k s cs t) y ≡ cell_at s t y
unfolding steps_done
steps_kept p k s lost none t h y e = refl
steps_kept p k s lost (next {done} {c} {cs} g ok) t h y e =
    steps_kept p k s lost ok (stepped p k s c t) (step_stripe p k s lost done c g t h) y (known_more lost c.cell y done e) ∙ step_kept p k s lost done c g t h y e

-- the sets named have XOR zero after the steps: a set has it after its own step, and all its cells
-- are known from then on
pub steps_zero : (p k s : ℕ) (lost : ℕ → Bool) {done : List ℕ} {cs : List CellStep} → Standing p k lost done cs → (t : List ℕ) → is_stripe p k s t ≡ true → (kind i : ℕ) → names kind i cs ≡ true → SetZero p k s (steps_done p k s cs t) kind i
unfolding steps_done names
steps_zero p k s lost none t h kind i e = absurd (false≢true e)
steps_zero p k s lost (next {done} {c} {cs} g ok) t h kind i e =
    ⊎_elim own (λ q. steps_zero p k s lost ok (stepped p k s c t) stripe kind i q) (or_cases _ _ e)
  where
    stripe : is_stripe p k s (stepped p k s c t) ≡ true
    stripe = step_stripe p k s lost done c g t h

    own : (eqb c.kind kind && eqb c.number i) ≡ true → SetZero p k s (steps_done p k s cs (stepped p k s c t)) kind i
    own q =
        ap₂ (λ (m n : ℕ). xor_over s (cell_at s (steps_done p k s cs (stepped p k s c t))) (set_of p k m n))
        (sym (eqb-true c.kind kind (and_l _ _ q)))
        (sym (eqb-true c.number i (and_r (eqb c.kind kind) (eqb c.number i) q)))
        ∙ over_ext s (cell_at s (steps_done p k s cs (stepped p k s c t))) (cell_at s (stepped p k s c t)) (set_by p k c) (λ y m. steps_kept p k s lost ok (stepped p k s c t) stripe y (g.others y m))
        ∙ step_zero p k s lost done c g t h

-- a stripe in which the sets named have XOR zero already is left as it is
pub steps_same : (p k s : ℕ) (lost : ℕ → Bool) {done : List ℕ} {cs : List CellStep} → Standing p k lost done cs → (t : List ℕ) → is_stripe p k s t ≡ true → ((kind i : ℕ) → i < p → names kind i cs ≡ true → SetZero p k s t kind i) → steps_done p k s cs t ≡ t
unfolding steps_done names
steps_same p k s lost none t h zeros = refl
steps_same p k s lost (next {done} {c} {cs} g ok) t h zeros =
    let own : (eqb c.kind c.kind && eqb c.number c.number) ≡ true = and_i _ _ (eq-eqb c.kind c.kind refl) (eq-eqb c.number c.number refl) in
    ap (steps_done p k s cs) (step_same p k s lost done c g t h (zeros c.kind c.number g.number_below (or_l _ _ own)))
    ∙ steps_same p k s lost ok t h (λ kind i l e. zeros kind i l (or_r (eqb c.kind kind && eqb c.number i) (names kind i cs) e))

-- so a clean one is
pub steps_clean : (p k s : ℕ) (lost : ℕ → Bool) {done : List ℕ} {cs : List CellStep} → Standing p k lost done cs → (t : List ℕ) → is_stripe p k s t ≡ true → clean p k s t ≡ true → steps_done p k s cs t ≡ t
steps_clean p k s lost ok t h c = steps_same p k s lost ok t h (λ kind i l e. clean_at p k s t c kind i l)

-- what the steps leave in a cell that is then known depends only on the known cells of the sets
-- named, and on the cell itself where it was known before
pub steps_agree :
    (p k s : ℕ) (lost : ℕ → Bool) {done : List ℕ} {cs : List CellStep} → Standing p k lost done cs
    → (t u : List ℕ) → is_stripe p k s t ≡ true → is_stripe p k s u ≡ true
    → ((y : ℕ) → y < p * (k + 2) → known lost done y ≡ true → in_sets p k y cs ≡ true → cell_at s t y ≡ cell_at s u y)
    → (y : ℕ) → (known lost done y ≡ true → cell_at s t y ≡ cell_at s u y)
    → known lost (done_after done cs) y ≡ true → cell_at s (steps_done p k s cs t) y ≡ cell_at s (steps_done p k s cs u) y
unfolding steps_done done_after in_sets
steps_agree p k s lost none t u ht hu read y old h = old h
steps_agree p k s lost (next {done} {c} {cs} g ok) t u ht hu read y old h =
    steps_agree p k s lost ok (stepped p k s c t) (stepped p k s c u) (step_stripe p k s lost done c g t ht) (step_stripe p k s lost done c g u hu)
    (λ z l a e. after z (λ b. read z l b (or_r (is_in z (set_by p k c)) (in_sets p k z cs) e)) a)
    y (after y old) h
  where
    after : (z : ℕ) → (known lost done z ≡ true → cell_at s t z ≡ cell_at s u z) → known lost (c.cell ∷ done) z ≡ true → cell_at s (stepped p k s c t) z ≡ cell_at s (stepped p k s c u) z
    after = step_agree p k s lost done c g t u ht hu (λ z l a e. read z l a (or_l _ _ e))

-- steps after which every cell is known: a stripe that agrees with a clean one in the cells known
-- before becomes that one
pub steps_back :
    (p k s : ℕ) (lost : ℕ → Bool) {done : List ℕ} {cs : List CellStep} → Standing p k lost done cs
    → ((y : ℕ) → y < p * (k + 2) → known lost (done_after done cs) y ≡ true)
    → (t u : List ℕ) → is_stripe p k s t ≡ true → is_stripe p k s u ≡ true
    → clean p k s u ≡ true
    → ((y : ℕ) → y < p * (k + 2) → known lost done y ≡ true → cell_at s t y ≡ cell_at s u y)
    → steps_done p k s cs t ≡ u
steps_back p k s lost {cs = cs} ok full t u ht hu cu old =
    stripes_equal p k s (steps_done p k s cs t) (steps_done p k s cs u) (steps_stripe p k s lost ok t ht) (steps_stripe p k s lost ok u hu)
    (λ y l. steps_agree p k s lost ok t u ht hu (λ z m a e. old z m a) y (old y l) (full y l))
    ∙ steps_clean p k s lost ok u hu cu
