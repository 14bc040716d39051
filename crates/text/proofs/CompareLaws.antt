-- Two texts are compared by `==`, byte by byte, as the definitions compare them.
use mathlib.Core.Path.{◌≡◌, refl, ap}
use mathlib.Core.Bool.{Bool, ◌&&◌}
use mathlib.Core.List.{List, [], ◌∷◌}
use Prim.Native.Nat.{ℕ}
use lib.Dec.{eqb}
use lib.Pointwise.{pointwise}
use Rattle.mathematics.specs.Lists.{same}

pub compared : (x y : List ℕ) → pointwise eqb x y ≡ same x y
compared [] [] = refl
compared [] (b ∷ y) = refl
compared (a ∷ x) [] = refl
compared (a ∷ x) (b ∷ y) = ap (λ (t : Bool). eqb a b && t) (compared x y)
