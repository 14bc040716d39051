-- The checksum blocks of a group follow its cells, one for each unit: a unit of the group is below
-- its stripes divided by u and rounded up, since its first stripe is one of the group's.
use mathlib.Core.Path.{◌≡◌, sym, ap}
use mathlib.Core.Logic.{inl, inr, ⊎_elim}
use Prim.Native.Nat.{ℕ, suc, ◌+◌, ◌-◌, ◌*◌, ◌/◌, ◌≤◌, ◌<◌}
use native.Mathlib.Nat.{div-add-mod', mod-lt, mul-le-mul_right, le_of_mul-le-mul_right}
use native.Mathlib.Omega.{arith}
use Rattle.mathematics.proofs.OrderLaws.{eq_or_ne, lt_or_gt}
use Rattle.space.specs.Says.{up_by}
use Rattle.image_layout.specs.Layouts.{stripes_of, units_of, block_bytes, cell_bytes, group_bytes, group_start, group_stripes, cell_in, cell_at, block_in, block_at}
use Rattle.image_layout.specs.Limits.{Accepted}
use Rattle.image_layout.specs.Stands.{Apart, IsCell}
use Rattle.image_layout.specs.declared.Layout.{Layout}
use Rattle.image_layout.proofs.UpLaws.{up_above, up_below}
use Rattle.image_layout.proofs.GroupLaws.{Inside, bytes_hold, inside_apart}
use Rattle.image_layout.proofs.CellPlaces.{stripe_in, cell_ends, cell_inside}

-- unit v of group j, of which it is the unit that its place says
pub record UnitIn (l : Layout) (j v : ℕ) : Type 0 where
  pub group : j * l.group ≤ stripes_of l
  pub from : j * (l.group / l.unit) ≤ v
  pub below : v - j * (l.group / l.unit) < up_by (group_stripes l j) l.unit

module _ (l : Layout) (ok : Accepted l) where
  -- the first stripe of a unit
  pub unit_first_lem : (v : ℕ) → v < units_of l → v * l.unit < stripes_of l
  unfolding units_of
  unit_first_lem v h = up_below l.unit ok.unit (stripes_of l) v h

  -- a group is as many units as its stripes divided by u
  pub units_whole : l.group / l.unit * l.unit ≡ l.group
  units_whole = omega (arith, div-add-mod' l.group l.unit, ok.whole)

  -- j groups are so many units
  pub units_of_lem : (j : ℕ) → j * (l.group / l.unit) * l.unit ≡ j * l.group
  units_of_lem j = let e : j * (l.group / l.unit * l.unit) ≡ j * l.group = ap (λ (x : ℕ). j * x) units_whole in omega (arith, e)

  -- the group of a unit
  pub unit_in : (v : ℕ) → v < units_of l → UnitIn l (v * l.unit / l.group) v
  unfolding group_stripes
  unit_in v h =
      let u = l.unit in
      let j = v * u / l.group in
      let q = j * (l.group / u) in
      let e = div-add-mod' (v * u) l.group in
      let m = mod-lt (v * u) ok.group in
      let f : v * u < stripes_of l = unit_first_lem v h in
      let w : q * u ≡ j * l.group = units_of_lem j in
      let t : q * u ≤ v * u = omega (arith, e, w) in
      let b : q ≤ v = le_of_mul-le-mul_right t ok.unit in
      let s : (v - q) * u ≡ v * u - q * u = split v q u b in
      record { group = omega (arith, e, f); from = b; below = up_above u ok.unit (group_stripes l j) (v - q) (omega (arith, s, e, m, f, w)) }
    where
      split : (v q u : ℕ) → q ≤ v → (v - q) * u ≡ v * u - q * u
      split v q u b =
          let d = v - q in
          let e : v ≡ d + q = omega arith in
          let m : v * u ≡ (d + q) * u = ap (λ (x : ℕ). x * u) e in
          omega (arith, m)

  block_low : (j v : ℕ) → group_start l j + cell_bytes l (group_stripes l j) ≤ block_in l j v
  unfolding block_in
  block_low j v = omega arith

  block_ends : (j v : ℕ) → UnitIn l j v → block_in l j v + block_bytes l ≤ group_start l j + group_bytes l (group_stripes l j)
  unfolding block_in
  block_ends j v q =
      let x = v - j * (l.group / l.unit) in
      let m : suc x * block_bytes l ≤ up_by (group_stripes l j) l.unit * block_bytes l = mul-le-mul_right (block_bytes l) q.below in
      omega (arith, m, bytes_hold l ok (group_stripes l j))

  pub block_inside : (v : ℕ) → v < units_of l → Inside l (v * l.unit / l.group) (block_at l v) (block_bytes l)
  unfolding block_at
  block_inside v h =
      let j = v * l.unit / l.group in
      let q = unit_in v h in
      record { group = q.group; low = omega (arith, block_low j v); high = block_ends j v q }

  -- two blocks of one group
  blocks_in : (j v w : ℕ) → UnitIn l j v → UnitIn l j w → (v ≡ w → ⊥) → Apart (block_in l j v) (block_bytes l) (block_in l j w) (block_bytes l)
  unfolding block_in
  blocks_in j v w a b d = ⊎_elim (λ h. inl (before v w a h)) (λ h. inr (before w v b h)) (lt_or_gt v w d)
    where
      before : (v w : ℕ) → UnitIn l j v → v < w → group_start l j + cell_bytes l (group_stripes l j) + (v - j * (l.group / l.unit)) * block_bytes l + block_bytes l ≤ group_start l j + cell_bytes l (group_stripes l j) + (w - j * (l.group / l.unit)) * block_bytes l
      before v w a h =
          let f = a.from in
          let m : suc (v - j * (l.group / l.unit)) * block_bytes l ≤ (w - j * (l.group / l.unit)) * block_bytes l = mul-le-mul_right (block_bytes l) (omega (arith, f)) in
          omega (arith, m)

  blocks_same : (v w : ℕ) → v < units_of l → w < units_of l → (v ≡ w → ⊥) → v * l.unit / l.group ≡ w * l.unit / l.group → Apart (block_at l v) (block_bytes l) (block_at l w) (block_bytes l)
  unfolding block_at
  blocks_same v w a b d e =
      let q : UnitIn l (v * l.unit / l.group) w = rw e (unit_in w b) in
      rw (sym e) (blocks_in (v * l.unit / l.group) v w (unit_in v a) q d)

  pub blocks_apart : (v w : ℕ) → v < units_of l → w < units_of l → (v ≡ w → ⊥) → Apart (block_at l v) (block_bytes l) (block_at l w) (block_bytes l)
  blocks_apart v w a b d = ⊎_elim (blocks_same v w a b d) other (eq_or_ne (v * l.unit / l.group) (w * l.unit / l.group))
    where
      other : (v * l.unit / l.group ≡ w * l.unit / l.group → ⊥) → Apart (block_at l v) (block_bytes l) (block_at l w) (block_bytes l)
      other z = inside_apart l ok (v * l.unit / l.group) (w * l.unit / l.group) (block_at l v) (block_bytes l) (block_at l w) (block_bytes l) (block_inside v a) (block_inside w b) z

  -- a cell and a block of one group
  cell_block_in : (j i n v : ℕ) → cell_in l j i n + l.cell_size ≤ group_start l j + cell_bytes l (group_stripes l j) → Apart (cell_in l j i n) l.cell_size (block_in l j v) (block_bytes l)
  cell_block_in j i n v h = inl (omega (arith, h, block_low j v))

  cell_block_same : (i n v : ℕ) → IsCell l i n → n / l.group ≡ v * l.unit / l.group → Apart (cell_at l i n) l.cell_size (block_at l v) (block_bytes l)
  unfolding cell_at block_at
  cell_block_same i n v c e =
      rw (sym e) (cell_block_in (n / l.group) i n v (cell_ends l ok (n / l.group) i n c.row (stripe_in l ok n c.stripe)))

  pub cell_block_apart : (i n v : ℕ) → IsCell l i n → v < units_of l → Apart (cell_at l i n) l.cell_size (block_at l v) (block_bytes l)
  cell_block_apart i n v c h = ⊎_elim (cell_block_same i n v c) other (eq_or_ne (n / l.group) (v * l.unit / l.group))
    where
      other : (n / l.group ≡ v * l.unit / l.group → ⊥) → Apart (cell_at l i n) l.cell_size (block_at l v) (block_bytes l)
      other z = inside_apart l ok (n / l.group) (v * l.unit / l.group) (cell_at l i n) l.cell_size (block_at l v) (block_bytes l) (cell_inside l ok i n c) (block_inside v h) z
