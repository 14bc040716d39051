-- Marks toggled along a list of cells, one by one.
use mathlib.Core.Path.{◌≡◌, refl, sym, ap, ◌∙◌}
use mathlib.Core.Bool.{true}
use mathlib.Core.List.{List, [], ◌∷◌}
use Prim.Native.Nat.{ℕ, ◌<◌}
use native.Mathlib.Omega.{arith}
use lib.Dec.{ltb}
use lib.ListN.{length}
use borrow.Author.Tests.{ltb-true}
use Rattle.mathematics.specs.Lists.{all_below}
use Rattle.mathematics.proofs.Flags.{and_l, and_r}
use Rattle.stripe_cells.specs.Toggled.{toggled, toggled_all}

-- the cells `rest` are still to be toggled in m, which was m₀ before all of xs
pub record Toggling (n : ℕ) (xs m₀ m rest : List ℕ) : Type 0 where
  pub below : all_below n rest ≡ true
  pub long : length m ≡ n
  pub marks : toggled_all rest m ≡ toggled_all xs m₀

pub toggling_start : (n : ℕ) (xs m : List ℕ) → all_below n xs ≡ true → length m ≡ n → Toggling n xs m m xs
toggling_start n xs m b l = record { below = b; long = l; marks = refl }

-- the next cell has a mark
pub toggling_next : {n : ℕ} {xs m₀ m rest : List ℕ} (x : ℕ) (left : List ℕ) → rest ≡ x ∷ left → Toggling n xs m₀ m rest → x < length m
toggling_next {n} x left e k = omega (arith, ltb-true x n (and_l (ltb x n) (all_below n left) (rw e at k.below)), k.long)

pub toggling_turn : {n : ℕ} {xs m₀ m rest : List ℕ} (x : ℕ) (left m' : List ℕ) → rest ≡ x ∷ left → Toggling n xs m₀ m rest → m' ≡ toggled x m → length m' ≡ length m → Toggling n xs m₀ m' left
unfolding toggled_all
toggling_turn {n} {m = m} x left m' e k d l =
    record {
      below = and_r (ltb x n) (all_below n left) (rw e at k.below);
      long = l ∙ k.long;
      marks = ap (toggled_all left) d ∙ sym (ap (λ (r : List ℕ). toggled_all r m) e) ∙ k.marks;
    }

pub toggling_end : {n : ℕ} {xs m₀ m rest : List ℕ} → rest ≡ [] → Toggling n xs m₀ m rest → m ≡ toggled_all xs m₀
unfolding toggled_all
toggling_end {m = m} e k = sym (ap (λ (r : List ℕ). toggled_all r m) e) ∙ k.marks
