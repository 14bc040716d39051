-- The sums that say where a cell or a block stands do not wrap: each lies below the second label.
use Prim.Native.Nat.{ℕ, ◌+◌, ◌-◌, ◌*◌, ◌/◌, ◌^◌, ◌≤◌, ◌<◌}
use native.Mathlib.Nat.{le-mul_of_pos_right}
use native.Mathlib.Omega.{arith}
use Rattle.image_layout.specs.Layouts.{units_of, block_bytes, cell_bytes, group_start, group_stripes, cell_in, cell_at, block_in, block_at}
use Rattle.image_layout.specs.Limits.{Accepted}
use Rattle.image_layout.specs.Stands.{IsCell}
use Rattle.image_layout.specs.declared.Layout.{Layout}
use Rattle.image_layout.proofs.GroupLaws.{inside_between}
use Rattle.image_layout.proofs.CellPlaces.{cell_inside}
use Rattle.image_layout.proofs.BlockPlaces.{block_inside, unit_first_lem}
use Rattle.image_layout.proofs.SmallLaws.{end_small, stripes_small}

module _ (l : Layout) (ok : Accepted l) where
  pub cell_small : (i n : ℕ) → IsCell l i n → cell_at l i n + l.cell_size ≤ 2 ^ 63
  cell_small i n c =
      omega (arith, (inside_between l ok (n / l.group) (cell_at l i n) l.cell_size (cell_inside l ok i n c)).before, end_small l ok)

  pub cell_sum : (i n : ℕ) → IsCell l i n → group_start l (n / l.group) + (i * group_stripes l (n / l.group) + (n - n / l.group * l.group)) * l.cell_size ≤ 2 ^ 63
  unfolding cell_at cell_in
  cell_sum i n c = omega (arith, cell_small i n c)

  -- the cells before it in its group
  pub cell_number : (i n : ℕ) → IsCell l i n → i * group_stripes l (n / l.group) + (n - n / l.group * l.group) ≤ 2 ^ 63
  cell_number i n c =
      let x = i * group_stripes l (n / l.group) + (n - n / l.group * l.group) in
      let m : x ≤ x * l.cell_size = le-mul_of_pos_right x ok.some in
      omega (arith, m, cell_sum i n c)

  pub block_sum : (v : ℕ) → v < units_of l → group_start l (v * l.unit / l.group) + cell_bytes l (group_stripes l (v * l.unit / l.group)) + (v - v * l.unit / l.group * (l.group / l.unit)) * block_bytes l ≤ 2 ^ 63
  unfolding block_at block_in
  block_sum v h =
      let j = v * l.unit / l.group in
      omega (arith, (inside_between l ok j (block_at l v) (block_bytes l) (block_inside l ok v h)).before, end_small l ok)

  pub first_small : (v : ℕ) → v < units_of l → v * l.unit ≤ 2 ^ 48
  first_small v h = omega (arith, unit_first_lem l ok v h, stripes_small l ok)

  pub number_small : (v : ℕ) → v < units_of l → v ≤ 2 ^ 48
  number_small v h = let m : v ≤ v * l.unit = le-mul_of_pos_right v ok.unit in omega (arith, m, first_small v h)
