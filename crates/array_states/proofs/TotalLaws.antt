-- The four totals: every array of a list is in one of them.
use mathlib.Core.Path.{◌≡◌, refl, ap}
use mathlib.Core.Bool.{Bool}
use mathlib.Core.List.{List, [], ◌∷◌}
use Prim.Native.Nat.{ℕ, zero, suc, ◌+◌}
use native.Mathlib.Omega.{arith}
use lib.Count.{ones}
use lib.Dec.{eqb, leb}
use lib.ListN.{length}
use borrow.Author.Tests.{ne_eqb, le-leb}
use Rattle.mathematics.specs.Choice.{when}
use Rattle.array_states.specs.declared.ArrayState.{ArrayState}
use Rattle.array_states.specs.Reports.{how_many, totals_of}

-- an array that has lost n disks is in one
in_one : (n : ℕ) → when (eqb n 0) 1 + when (eqb n 1) 1 + when (eqb n 2) 1 + when (leb 3 n) 1 ≡ 1
in_one zero = refl
in_one (suc zero) = refl
in_one (suc (suc zero)) = refl
in_one (suc (suc (suc n))) =
    let m = suc (suc (suc n)) in
    let no : (k : ℕ) → (m ≡ k → ⊥) → when (eqb m k) 1 ≡ 0 = λ k d. ap (λ (b : Bool). when b 1) (ne_eqb m k d) in
    omega (arith, no 0 (λ e. omega arith), no 1 (λ e. omega arith), no 2 (λ e. omega arith), ap (λ (b : Bool). when b 1) (le-leb 3 m (omega arith)))

pub totals_all : (xs : List ArrayState) → let t = totals_of xs in t.optimal + t.degraded + t.critical + t.failed ≡ length xs
unfolding how_many
totals_all [] = refl
totals_all (c ∷ cs) = omega (arith, in_one (ones c.lost), totals_all cs)
