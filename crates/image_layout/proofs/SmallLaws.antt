-- No sum or product of an accepted layout reaches 2^63: a group has at most g·(p·s + L + 4,095)
-- bytes, so j groups before the last stripe have at most N·(p·s + L + 4,095), where N·k·p·s is less
-- than a stripe above the film's length, and N itself at most that length.
use mathlib.Core.Logic.{⊎_elim}
use Prim.Native.Nat.{ℕ, ◌+◌, ◌-◌, ◌*◌, ◌/◌, ◌%◌, ◌^◌, ◌≤◌, ◌<◌}
use native.Mathlib.Nat.{mul-le-mul, mul-le-mul_left, mul-le-mul_right, mul-pos, div-mul-le_self, mod-lt, mod-eq_of_lt}
use native.Mathlib.Omega.{arith}
use Rattle.mathematics.proofs.OrderLaws.{lt_or_le}
use Rattle.space.specs.Says.{up_by}
use Rattle.image_layout.specs.Layouts.{film_bytes, stripes_of, block_bytes, cell_bytes, group_bytes, group_start, end_at}
use Rattle.image_layout.specs.Limits.{Accepted}
use Rattle.image_layout.specs.declared.Layout.{Layout}
use Rattle.image_layout.proofs.UpLaws.{up_most, round_most}

module _ (l : Layout) (ok : Accepted l) where
  pub disk_small : l.width * l.cell_size ≤ 126976
  disk_small = let m : l.width * l.cell_size ≤ 31 * 4096 = mul-le-mul ok.array.widest ok.small in omega (arith, m)

  pub disks_few : l.disks ≤ 31
  disks_few = omega (arith, ok.array.disks, ok.array.widest)

  pub film_pos : 0 < film_bytes l
  film_pos = mul-pos (omega (arith, ok.array.two)) (mul-pos ok.array.some ok.some)

  pub film_small : film_bytes l ≤ 3936256
  film_small = let m : l.disks * (l.width * l.cell_size) ≤ 31 * 126976 = mul-le-mul disks_few disk_small in omega (arith, m)

  pub stripes_small : stripes_of l ≤ 2 ^ 48
  unfolding stripes_of
  stripes_small = omega (arith, up_most (film_bytes l) film_pos l.length, ok.length)

  -- the cells of all stripes on one disk
  cells_small : stripes_of l * (l.width * l.cell_size) ≤ 2 ^ 48 + 3936256
  unfolding stripes_of
  cells_small =
      let t : stripes_of l * film_bytes l ≤ l.length + (film_bytes l - 1) = div-mul-le_self (l.length + (film_bytes l - 1)) (film_bytes l) in
      let m : 1 * (l.width * l.cell_size) ≤ film_bytes l = mul-le-mul_right (l.width * l.cell_size) (omega (arith, ok.array.two)) in
      let n : stripes_of l * (1 * (l.width * l.cell_size)) ≤ stripes_of l * film_bytes l = mul-le-mul_left (stripes_of l) m in
      omega (arith, t, n, film_small, ok.length)

  pub block_small : block_bytes l ≤ 8192
  unfolding block_bytes
  block_small =
      let d : l.disks + 2 ≤ 33 = omega (arith, disks_few) in
      let m : l.width * (l.disks + 2) ≤ 31 * 33 = mul-le-mul ok.array.widest d in
      omega (arith, m)

  -- a unit is no larger than its group
  pub unit_small : l.unit ≤ 65536
  unit_small = ⊎_elim (λ h. absurd (omega (arith, mod-eq_of_lt h, ok.whole, ok.group))) (λ h. omega (arith, h, ok.most)) (lt_or_le l.group l.unit)

  -- the cells of a group on one disk
  pub cells_few : (m : ℕ) → m ≤ l.group → l.width * m ≤ 2031616
  cells_few m h =
      let g : m ≤ 65536 = omega (arith, h, ok.most) in
      let a : l.width * m ≤ 31 * 65536 = mul-le-mul ok.array.widest g in
      omega (arith, a)

  pub cell_bytes_small : (m : ℕ) → m ≤ l.group → cell_bytes l m ≤ 8321499136
  unfolding cell_bytes
  cell_bytes_small m h =
      let b : l.width * m * l.cell_size ≤ 2031616 * 4096 = mul-le-mul (cells_few m h) ok.small in
      omega (arith, b)

  pub units_few : (m : ℕ) → m ≤ l.group → up_by m l.unit ≤ 65536
  units_few m h = omega (arith, up_most l.unit ok.unit m, h, ok.most)

  pub blocks_small : (m : ℕ) → m ≤ l.group → block_bytes l * up_by m l.unit ≤ 536870912
  blocks_small m h = let b : block_bytes l * up_by m l.unit ≤ 8192 * 65536 = mul-le-mul block_small (units_few m h) in omega (arith, b)

  pub group_small : (m : ℕ) → m ≤ l.group → group_bytes l m ≤ 2 ^ 34
  unfolding group_bytes
  group_small m h = omega (arith, round_most (cell_bytes l m + block_bytes l * up_by m l.unit), cell_bytes_small m h, blocks_small m h)

  -- the bytes of a whole group, by its stripes
  group_most : group_bytes l l.group ≤ l.group * (l.width * l.cell_size + (block_bytes l + 4095))
  unfolding group_bytes cell_bytes
  group_most =
      let b : block_bytes l * up_by l.group l.unit ≤ block_bytes l * l.group = mul-le-mul_left (block_bytes l) (up_most l.unit ok.unit l.group) in
      omega (arith, round_most (cell_bytes l l.group + block_bytes l * up_by l.group l.unit), b, ok.group)

  -- the groups before group j
  pub start_small : (j : ℕ) → j * l.group ≤ stripes_of l → group_start l j ≤ 2 ^ 62
  unfolding group_start
  start_small j h =
      let w = l.width * l.cell_size + (block_bytes l + 4095) in
      let a : j * group_bytes l l.group ≤ j * (l.group * w) = mul-le-mul_left j group_most in
      let b : j * l.group * w ≤ stripes_of l * w = mul-le-mul_right w h in
      let x : block_bytes l + 4095 ≤ 12287 = omega (arith, block_small) in
      let c : stripes_of l * (block_bytes l + 4095) ≤ 2 ^ 48 * 12287 = mul-le-mul stripes_small x in
      omega (arith, a, b, c, cells_small)

  pub end_small : end_at l ≤ 2 ^ 62 + 2 ^ 34
  unfolding end_at
  end_small =
      let g = l.group in
      let m : stripes_of l % g < g = mod-lt (stripes_of l) ok.group in
      omega (arith, start_small (stripes_of l / g) (div-mul-le_self (stripes_of l) g), group_small (stripes_of l % g) (omega (arith, m)))
