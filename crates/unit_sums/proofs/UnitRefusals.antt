-- Refusals 1, 13, 2, 25 and 5 of a call on a unit: when each is, and what none of them leaves.
use mathlib.Core.Path.{◌≡◌, ap, ap₂}
use mathlib.Core.Bool.{Bool, false, ◌||◌, not}
use mathlib.Core.List.{List}
use Prim.Native.Nat.{ℕ, ◌*◌, ◌/◌, ◌≤◌, ◌<◌}
use native.Mathlib.Nat.{mul-pos, div-lt_iff_lt-mul}
use native.Mathlib.Omega.{arith}
use lib.Dec.{eqb, ltb}
use lib.ListN.{length}
use borrow.Author.Tests.{eq-eqb, ne_eqb, eqb-true, eqb-false, ltb-false, lt-ltb, not-false}
use Rattle.mathematics.specs.Choice.{when, first_of}
use Rattle.mathematics.proofs.ChoiceLaws.{first_none, when_none}
use Rattle.mathematics.proofs.Flags.{or_l, or_false_l, or_false_r}
use Rattle.liberation.specs.Limits.{InArray, largest_cell}
use Rattle.liberation.specs.Sets.{shape_refusal}
use Rattle.liberation.specs.Stripes.Stripes.{stripe_long}
use Rattle.liberation.proofs.RefusalLaws.{shape_of}
use Rattle.unit_sums.specs.Sums.{block_long}
use Rattle.unit_sums.specs.UnitLimits.{InUnit}
use Rattle.unit_sums.specs.Refusals.{stripes_refusal, numbers_refusal, length_refusal, lengths_refusal, unit_refusal}

-- a unit of no stripes, and of too many
pub stripes_none : (s n : ℕ) → n ≡ 0 → stripes_refusal s n ≡ 25
stripes_none s n e = ap (λ (b : Bool). when b 25) (or_l (eqb n 0) (ltb largest_cell (n * s)) (eq-eqb n 0 e))

module _ (s n : ℕ) (some : 0 < s) (one : n ≡ 0 → ⊥) where
  pub stripes_over : largest_cell / s < n → stripes_refusal s n ≡ 25
  stripes_over h =
      let l : largest_cell < n * s = (div-lt_iff_lt-mul some).0 h in
      ap₂ (λ (a b : Bool). when (a || b) 25) (ne_eqb n 0 one) (lt-ltb largest_cell (n * s) l)

stripes_of_lem : (s n : ℕ) → stripes_refusal s n ≡ 0 → (0 < n) × (n * s ≤ largest_cell)
stripes_of_lem s n e =
    let t : (eqb n 0 || ltb largest_cell (n * s)) ≡ false = when_none (eqb n 0 || ltb largest_cell (n * s)) 24 e in
    (omega (arith, eqb-false n 0 (or_false_l (eqb n 0) (ltb largest_cell (n * s)) t)), ltb-false largest_cell (n * s) (or_false_r (eqb n 0) (ltb largest_cell (n * s)) t))

-- none of 1, 13, 2 and 25
pub numbers_of_lem : (p k s n : ℕ) → numbers_refusal p k s n ≡ 0 → InArray p k × (0 < s) × (0 < n) × (n * s ≤ largest_cell)
numbers_of_lem p k s n e =
    let w = first_none (shape_refusal p k s) (stripes_refusal s n) e in
    let a = shape_of p k s w.0 in
    let b = stripes_of_lem s n w.1 in
    (a.0, a.1, b.0, b.1)

pub length_of : (q l : ℕ) → length_refusal q l ≡ 0 → l ≡ q
length_of q l e = eqb-true l q (not-false (eqb l q) (when_none (not (eqb l q)) 4 e))

pub lengths_of : (p k q a b l : ℕ) → lengths_refusal p k q a b l ≡ 0 → (a ≡ 16) × (b ≡ block_long p k) × (l ≡ q)
lengths_of p k q a b l e =
    let u = first_none (length_refusal 16 a) (first_of (length_refusal (block_long p k) b) (length_refusal q l)) e in
    let z = first_none (length_refusal (block_long p k) b) (length_refusal q l) u.1 in
    (length_of 16 a u.0, length_of (block_long p k) b z.0, length_of q l z.1)

-- none of these refusals
pub unit_of_lem : (p k s n : ℕ) (name block t : List ℕ) → unit_refusal p k s n (length name) (length block) (length t) ≡ 0 → (0 < s) × InUnit p k (n * s) name block t
unit_of_lem p k s n name block t e =
    let w = first_none (numbers_refusal p k s n) (lengths_refusal p k (stripe_long p k (n * s)) (length name) (length block) (length t)) e in
    let a = numbers_of_lem p k s n w.0 in
    let q = lengths_of p k (stripe_long p k (n * s)) (length name) (length block) (length t) w.1 in
    (a.1, record { sized = record { array = a.0; small = a.3; long = q.2 }; some = mul-pos a.2 a.1; named = q.0; summed = q.1 })
