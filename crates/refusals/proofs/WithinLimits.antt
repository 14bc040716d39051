-- What an array and its cells are known to be, in the records in which lemmas ask for it.
use mathlib.Core.Path.{◌≡◌}
use mathlib.Core.List.{List}
use Prim.Native.Nat.{ℕ}
use lib.ListN.{length}
use Rattle.liberation.specs.Limits.{InArray}
use Rattle.liberation.specs.Stripes.Stripes.{stripe_long}
use Rattle.liberation.specs.Stripes.StripeLimits.{Sized}
use Rattle.refusals.specs.declared.array.Array.{Array}
use Rattle.refusals.specs.declared.array.Geometry.{Geometry}

pub in_array : (a : Array) → InArray a.width a.disks
in_array a = record { width = a.one_of_ten; some = a.some; widest = a.widest; two = a.two; disks = a.within }

-- a stripe of the array, by its length
pub sized : (g : Geometry) (t : List ℕ) → length t ≡ stripe_long g.array.width g.array.disks g.cell_size → Sized g.array.width g.array.disks g.cell_size t
sized g t e = record { array = in_array g.array; small = g.small; long = e }
