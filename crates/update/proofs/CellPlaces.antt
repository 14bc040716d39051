-- Where the cells of an update are: the data cell before its parity cells, all within the stripe.
use mathlib.Core.List.{List}
use Prim.Native.Nat.{ℕ, suc, ◌+◌, ◌*◌, ◌≤◌, ◌<◌}
use native.Mathlib.Nat.{mul-le-mul, mul-le-mul_right}
use native.Mathlib.Omega.{arith}
use lib.ListN.{length}
use Rattle.liberation.specs.Sets.{place}
use Rattle.liberation.proofs.SetLaws.{place_below}
use Rattle.liberation.proofs.Widths.{width_odd}
use Rattle.liberation.proofs.Stripes.StripeCellLaws.{cell_fits}
use Rattle.refusals.specs.StripeOf.{IsStripeOf}
use Rattle.update.specs.declared.target.Target.{Target}
use Rattle.update.specs.Cells.{DataCell}

-- the cell of an update, in its stripe
pub data_cell : (x : Target) (t : List ℕ) → IsStripeOf x.geometry t → DataCell x.geometry.array.width x.geometry.array.disks x.geometry.cell_size x.row x.disk t
data_cell x t e =
    let a = x.geometry.array in
    record { odd = width_odd a.width a.one_of_ten; widest = a.widest; disks = a.within; row = x.in_rows; disk = x.of_data; long = e }

module _ (p k s r c : ℕ) (t : List ℕ) (d : DataCell p k s r c t) where
  -- places are small numbers
  pub places_small : (c * p ≤ 961) × (k * p ≤ 961) × ((k + 1) * p ≤ 992)
  places_small =
      let n : k ≤ 31 = omega (arith, d.disks, d.widest) in
      let m : c ≤ 31 = omega (arith, d.disk) in
      let o : k + 1 ≤ 32 = omega arith in
      (mul-le-mul m d.widest, mul-le-mul n d.widest, mul-le-mul o d.widest)

  place_fits : (i e : ℕ) → i < p → e < k + 2 → place p i e * s + s ≤ length t
  place_fits i e h l = omega (arith, d.long, cell_fits (p * (k + 2)) s (place p i e) (place_below p (k + 2) i e h l))

  pub own_fits : place p r c * s + s ≤ length t
  own_fits = place_fits r c d.row (omega (arith, d.disk))

  -- the P cell of the row
  pub row_fits : (place p r c < place p r k) × (place p r k * s + s ≤ length t)
  row_fits =
      let q : suc c ≤ k = omega (arith, d.disk) in
      (omega (arith, d.row, mul-le-mul_right p q), place_fits r k d.row (omega arith))

  -- the Q cell of a diagonal
  pub diagonal_fits : (i : ℕ) → i < p → (place p r c < place p i (k + 1)) × (place p i (k + 1) * s + s ≤ length t)
  diagonal_fits i h =
      let q : suc c ≤ k = omega (arith, d.disk) in
      (omega (arith, d.row, mul-le-mul_right p q), place_fits i (k + 1) h (omega arith))
