-- A `match` on a number with several keys in one arm: what that arm and the rest know, as a test of
-- membership in the list of keys.
use mathlib.Core.Path.{◌≡◌, ap, ◌∙◌}
use mathlib.Core.Bool.{Bool, true, false, ◌||◌}
use mathlib.Core.List.{List, [], ◌∷◌}
use mathlib.Core.Logic.{◌⊎◌, inl, inr}
use Prim.Native.Nat.{ℕ}
use lib.Dec.{eqb}
use borrow.Author.Tests.{eq-eqb, ne_eqb}
use Rattle.mathematics.specs.Lists.{is_in}
use Rattle.mathematics.proofs.Flags.{or_l, or_r}

-- x is y, or one of ys
abbrev pub OneOf : ℕ → ℕ → List ℕ → Type 0
OneOf x y [] = x ≡ y
OneOf x y (z ∷ zs) = (x ≡ y) ⊎ OneOf x z zs

pub is_in_lem : (x y : ℕ) (ys : List ℕ) → OneOf x y ys → is_in x (y ∷ ys) ≡ true
is_in_lem x y [] e = or_l (eqb x y) false (eq-eqb x y e)
is_in_lem x y (z ∷ zs) (inl e) = or_l (eqb x y) (is_in x (z ∷ zs)) (eq-eqb x y e)
is_in_lem x y (z ∷ zs) (inr e) = or_r (eqb x y) (is_in x (z ∷ zs)) (is_in_lem x z zs e)

pub not_in : (x y : ℕ) (ys : List ℕ) → (OneOf x y ys → ⊥) → is_in x (y ∷ ys) ≡ false
not_in x y [] n = ap (λ (t : Bool). t || false) (ne_eqb x y n)
not_in x y (z ∷ zs) n = ap (λ (t : Bool). t || is_in x (z ∷ zs)) (ne_eqb x y (λ e. n (inl e))) ∙ not_in x z zs (λ e. n (inr e))
