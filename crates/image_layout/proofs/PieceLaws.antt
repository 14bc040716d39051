-- A unit lies in one group, since u divides g; so the cells of a row of it follow one another, and a
-- stripe is of the unit that its number divided by u says.
use mathlib.Core.Path.{◌≡◌, refl, ap, ◌∙◌}
use mathlib.Core.Logic.{⊎_elim}
use Prim.Native.Nat.{ℕ, ◌+◌, ◌-◌, ◌*◌, ◌/◌, ◌%◌, ◌^◌, ◌≤◌, ◌<◌}
use native.Mathlib.Nat.{div-add-mod', div-mul-le_self, mod-lt, mul-le-mul, mul-le-mul_right, le_of_mul-le-mul_right}
use native.Mathlib.Omega.{arith}
use lib.Arith.{digits_div, digits_lt}
use Rattle.mathematics.proofs.OrderLaws.{lt_or_le}
use Rattle.image_layout.specs.Layouts.{stripes_of, units_of, group_start, group_stripes, cell_in, cell_at, unit_first, unit_stripes, piece_at, piece_bytes}
use Rattle.image_layout.specs.Limits.{Accepted}
use Rattle.image_layout.specs.Stands.{IsCell, PiecesStand}
use Rattle.image_layout.specs.declared.Layout.{Layout}
use Rattle.image_layout.proofs.UpLaws.{up_above}
use Rattle.image_layout.proofs.BlockPlaces.{unit_first_lem, units_whole, units_of_lem}
use Rattle.image_layout.proofs.SmallLaws.{unit_small}

module _ (l : Layout) (ok : Accepted l) where
  few : (v x : ℕ) → x < unit_stripes l v → (x < l.unit) × (unit_first l v + x < stripes_of l)
  unfolding unit_stripes
  few v x h = (omega (arith, h), omega (arith, h))

  pub unit_some : (v : ℕ) → v < units_of l → 0 < unit_stripes l v
  unfolding unit_stripes
  unit_some v h = omega (arith, unit_first_lem l ok v h, ok.unit)

  -- the group of a stripe of a unit is that of the unit's first
  same_group : (v x : ℕ) → x < l.unit → (unit_first l v + x) / l.group ≡ unit_first l v / l.group
  same_group v x h =
      let u = l.unit in
      let g = l.group in
      let j = v * u / g in
      let q = j * (g / u) in
      let d = v - q in
      let e : j * g + v * u % g ≡ v * u = div-add-mod' (v * u) g in
      let w : q * u ≡ j * g = units_of_lem l ok j in
      let b : q ≤ v = le_of_mul-le-mul_right (omega (arith, e, w)) ok.unit in
      let s : v * u ≡ (d + q) * u = ap (λ (y : ℕ). y * u) (omega (arith, b)) in
      let r : d * u ≡ v * u % g = omega (arith, s, e, w) in
      let t : d * u + x < g / u * u = digits_lt (below d (omega (arith, r, mod-lt (v * u) ok.group))) h in
      let f : unit_first l v + x ≡ j * g + (v * u % g + x) = omega (arith, e) in
      ap (λ (y : ℕ). y / g) f ∙ digits_div j (omega (arith, t, r, units_whole l ok))
    where
      below : (d : ℕ) → d * l.unit < l.group → d < l.group / l.unit
      below d k = ⊎_elim (λ h. h) (λ h. let m : l.group / l.unit * l.unit ≤ d * l.unit = mul-le-mul_right l.unit h in absurd (omega (arith, m, k, units_whole l ok))) (lt_or_le d (l.group / l.unit))

  cell_in_lem : (j i n x : ℕ) → j * l.group ≤ n → cell_in l j i (n + x) ≡ cell_in l j i n + x * l.cell_size
  unfolding cell_in
  cell_in_lem j i n x h =
      let s = l.cell_size in
      let a = i * group_stripes l j + (n - j * l.group) in
      let e : i * group_stripes l j + (n + x - j * l.group) ≡ a + x = omega (arith, h) in
      ap (λ (y : ℕ). group_start l j + y * s) e ∙ split (group_start l j) a x s
    where
      split : (o a x s : ℕ) → o + (a + x) * s ≡ o + a * s + x * s
      split o a x s = omega arith

  piece_cell : (i v x : ℕ) → x < l.unit → cell_at l i (unit_first l v + x) ≡ piece_at l i v + x * l.cell_size
  unfolding cell_at piece_at
  piece_cell i v x h =
      let j = unit_first l v / l.group in
      ap (λ (y : ℕ). cell_in l y i (unit_first l v + x)) (same_group v x h) ∙ cell_in_lem j i (unit_first l v) x (div-mul-le_self (unit_first l v) l.group)

  has_unit : (n : ℕ) → n < stripes_of l → n / l.unit < units_of l
  unfolding units_of
  has_unit n h = up_above l.unit ok.unit (stripes_of l) (n / l.unit) (omega (arith, h, div-mul-le_self n l.unit))

  in_unit : (n : ℕ) → n < stripes_of l → n % l.unit < unit_stripes l (n / l.unit)
  unfolding unit_stripes
  in_unit n h = omega (arith, h, div-add-mod' n l.unit, mod-lt n ok.unit)

  piece_bytes_lem : (v : ℕ) → piece_bytes l v ≡ unit_stripes l v * l.cell_size
  unfolding piece_bytes
  piece_bytes_lem v = refl

  pub pieces_by : PiecesStand l
  pieces_by =
      record {
        stripe = λ v x a h. (few v x h).1;
        unit = λ v x a h. digits_div v (few v x h).0;
        has_unit = has_unit;
        in_unit = in_unit;
        cell = λ i v x c a h. piece_cell i v x (few v x h).0;
        bytes = piece_bytes_lem;
        some = unit_some;
      }

  -- a unit's first cell is one of the layout, and a piece's bytes do not wrap
  pub first_cell_lem : (i v : ℕ) → i < l.width → v < units_of l → IsCell l i (unit_first l v)
  first_cell_lem i v r h = record { row = r; stripe = unit_first_lem l ok v h }

  pub bytes_small : (v : ℕ) → unit_stripes l v * l.cell_size ≤ 2 ^ 28
  unfolding unit_stripes
  bytes_small v =
      let n : unit_stripes l v ≤ 65536 = omega (arith, unit_small l ok) in
      let m : unit_stripes l v * l.cell_size ≤ 65536 * 4096 = mul-le-mul n ok.small in
      omega (arith, m)
