-- What the test of the numbers of a call hands on.
use Rattle.std.specs.Prelude.{◌≡◌, ℕ, ◌+◌, ◌*◌}
use Rattle.liberation.specs.Stripes.Stripes.{stripe_long}
use Rattle.refusals.specs.declared.array.Geometry.{Geometry}
use Rattle.refusals.specs.declared.shape.Shape.{Shape}

-- the geometry of this shape, with a mark for each cell in n marks, and a stripe of m bytes
pub record IsChecked (x : Shape) (n m : ℕ) (g : Geometry) : Type 0 where
  pub width : g.array.width ≡ x.width
  pub disks : g.array.disks ≡ x.disks
  pub size : g.cell_size ≡ x.cell_size
  pub marks : n ≡ x.width * (x.disks + 2)
  pub stripe : m ≡ stripe_long x.width x.disks x.cell_size
