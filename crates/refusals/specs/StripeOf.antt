-- The length of a stripe within the limits.
use Rattle.std.specs.Prelude.{◌≡◌, List, ℕ, length}
use Rattle.liberation.specs.Stripes.Stripes.{stripe_long}
use Rattle.refusals.specs.declared.array.Geometry.{Geometry}

-- t has the length of a stripe of this array and these cells
abbrev pub IsStripeOf : Geometry → List ℕ → Type 0
IsStripeOf g t = length t ≡ stripe_long g.array.width g.array.disks g.cell_size
