-- The extra cell of a set: on a disk of the group, or before it, or none.
use mathlib.Core.Path.{◌≡◌, refl, ap, ◌∙◌}
use mathlib.Core.Bool.{Bool, true, false}
use mathlib.Core.List.{List, []}
use Prim.Native.Nat.{ℕ, ◌≤◌, ◌<◌}
use lib.Dec.{leb}
use borrow.Author.Tests.{le-leb, lt-leb}
use Rattle.mathematics.specs.Choice.{pick}
use Rattle.liberation.specs.Sets.{extra_disk}
use Rattle.stripe_cells.specs.SetCells.{extra_in}
use Rattle.encode.specs.Extras.{extra_between}

module _ (p kind i : ℕ) where
  pub extra_before : (lo hi : ℕ) → extra_disk p i < lo → extra_between p lo hi kind i ≡ []
  extra_before lo hi h = ap (λ (b : Bool). pick b (extra_in p hi kind i) []) (lt-leb lo (extra_disk p i) h)

  pub extra_from : (lo hi : ℕ) → lo ≤ extra_disk p i → extra_between p lo hi kind i ≡ extra_in p hi kind i
  extra_from lo hi h = ap (λ (b : Bool). pick b (extra_in p hi kind i) []) (le-leb lo (extra_disk p i) h)

  pub extra_none : (lo hi : ℕ) → extra_in p hi kind i ≡ [] → extra_between p lo hi kind i ≡ []
  extra_none lo hi e = ap (λ (l : List ℕ). pick (leb lo (extra_disk p i)) l []) e ∙ go (leb lo (extra_disk p i))
    where
      go : (b : Bool) → ◌≡◌ {A = List ℕ} (pick b [] []) []
      go true = refl
      go false = refl
