-- What is known of two lost data disks, in the records in which lemmas ask for it.
use mathlib.Core.Path.{◌≡◌}
use mathlib.Core.List.{List}
use Prim.Native.Nat.{ℕ, ◌%◌, ◌≤◌, ◌<◌}
use native.Mathlib.Omega.{arith}
use Rattle.liberation.specs.Stripes.StripeLimits.{Sized}
use Rattle.liberation.proofs.Widths.{width_odd}
use Rattle.refusals.specs.StripeOf.{IsStripeOf}
use Rattle.refusals.proofs.WithinLimits.{sized}
use Rattle.two_disk_walk.specs.declared.lost_pair.LostPair.{LostPair}

-- x and y of an array with p rows and k data disks are to be walked
pub record Walked (p k x y : ℕ) : Type 0 where
  pub odd : p % 2 ≡ 1
  pub low : 1 ≤ x
  pub high : x < k
  pub other : y < k

-- the stripe t has cells of s bytes
pub record Lost (p k s x y : ℕ) (t : List ℕ) : Type 0 where
  pub sized : Sized p k s t
  pub one : x < k
  pub other : y < k

pub walked_pair : (l : LostPair) → Walked l.geometry.array.width l.geometry.array.disks l.x l.y
walked_pair l = record { odd = width_odd l.geometry.array.width l.geometry.array.one_of_ten; low = l.above_zero; high = l.x_is_data; other = l.y_is_data }

-- the walk to disk 0
pub walked_zero : (l : LostPair) → Walked l.geometry.array.width l.geometry.array.disks l.x 0
walked_zero l = let w = walked_pair l in record { odd = w.odd; low = w.low; high = w.high; other = omega (arith, w.high) }

pub lost_pair : (l : LostPair) (t : List ℕ) → IsStripeOf l.geometry t → Lost l.geometry.array.width l.geometry.array.disks l.geometry.cell_size l.x l.y t
lost_pair l t e = record { sized = sized l.geometry t e; one = l.x_is_data; other = l.y_is_data }
