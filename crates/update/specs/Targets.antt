-- What the test of an update's numbers hands on.
use Rattle.std.specs.Prelude.{◌≡◌, ℕ}
use Rattle.liberation.specs.Stripes.Stripes.{stripe_long}
use Rattle.refusals.specs.declared.shape.Shape.{Shape}
use Rattle.update.specs.declared.target.Target.{Target}

-- the cell of this row and disk, in a stripe of n bytes, its new bytes being m
pub record IsTarget (x : Shape) (r c n m : ℕ) (t : Target) : Type 0 where
  pub width : t.geometry.array.width ≡ x.width
  pub disks : t.geometry.array.disks ≡ x.disks
  pub size : t.geometry.cell_size ≡ x.cell_size
  pub row : t.row ≡ r
  pub disk : t.disk ≡ c
  pub stripe : n ≡ stripe_long x.width x.disks x.cell_size
  pub cell : m ≡ x.cell_size
