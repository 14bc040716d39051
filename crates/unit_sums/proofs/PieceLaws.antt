-- What the functions on pieces compute, from the parts of slices that they hand on.
use mathlib.Core.Path.{◌≡◌, ap, ap₂, ◌∙◌}
use mathlib.Core.Bool.{Bool}
use mathlib.Core.List.{List}
use Prim.Native.Nat.{ℕ, ◌+◌, ◌-◌, ◌*◌, ◌≤◌, ◌<◌}
use native.Mathlib.Omega.{arith}
use lib.ListN.{length, take, drop}
use lib.Dec.{eqb}
use Rattle.std.specs.Cmp.Lexicographic.{pointwise}
use Rattle.mathematics.specs.Lists.{same}
use Rattle.liberation.specs.Stripes.Stripes.{stripe_long}
use Rattle.liberation.proofs.Stripes.StripeCellLaws.{cell_fits}
use Rattle.unit_sums.specs.Sums.{little_endian, guard_of, is_sealed}
use Rattle.unit_sums.proofs.NumberLaws.{same_slices}
use Rattle.liberation.proofs.Stripes.SizedLaws.{sized_long}
use Rattle.unit_sums.specs.UnitLimits.{InUnit}

-- a part from a on, of n
pub part_is : (a n : ℕ) (t : List ℕ) → take (a + n - a) (drop a t) ≡ take n (drop a t)
part_is a n t = let e : a + n - a ≡ n = omega arith in ap (λ (m : ℕ). take m (drop a t)) e

-- the test of a guard
pub sealed_is :
    (p k unit : ℕ) (name block sums guard bytes : List ℕ) (r : Bool) → sums ≡ take (p * (k + 2) * 8) block → guard ≡ drop (p * (k + 2) * 8) block
    → bytes ≡ little_endian 8 (guard_of name unit sums) → r ≡ pointwise eqb guard bytes → r ≡ is_sealed p k name unit block
unfolding is_sealed
sealed_is p k unit name block sums guard bytes r es eg eb h =
    h ∙ same_slices guard bytes ∙ ap₂ same eg (eb ∙ ap (λ (v : List ℕ). little_endian 8 (guard_of name unit v)) es)

-- a piece lies within a unit that is as long as its pieces
pub piece_ends : (p k s x : ℕ) (t : List ℕ) → length t ≡ stripe_long p k s → x < p * (k + 2) → x * s + s ≤ length t
piece_ends p k s x t l h = let e : (k + 2) * (p * s) ≡ p * (k + 2) * s = omega arith in omega (arith, cell_fits (p * (k + 2)) s x h)

-- a piece and its checksum lie within the unit and its block
pub piece_within : (p k s x : ℕ) (name block t : List ℕ) → InUnit p k s name block t → x < p * (k + 2) → (x * s + s ≤ length t) × (x * 8 + 8 ≤ length block)
piece_within p k s x name block t u h = (omega (arith, cell_fits (p * (k + 2)) s x h, sized_long p k s t u.sized), omega (arith, cell_fits (p * (k + 2)) 8 x h, u.summed))
