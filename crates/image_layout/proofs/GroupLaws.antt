-- Groups follow one another: a group's bytes grow with its stripes, of which none has more than g,
-- so each ends before the next begins, and the last ends where the second label begins. What lies
-- in different groups is apart.
use mathlib.Core.Path.{◌≡◌, ap}
use mathlib.Core.Logic.{inl, inr, ⊎_elim}
use Prim.Native.Nat.{ℕ, suc, ◌+◌, ◌*◌, ◌/◌, ◌%◌, ◌≤◌, ◌<◌}
use native.Mathlib.Nat.{le-div_iff_mul-le, div-add-mod', mod-lt, mul-le-mul_left, mul-le-mul_right}
use native.Mathlib.Omega.{arith}
use Rattle.mathematics.proofs.OrderLaws.{eq_or_lt, lt_or_gt}
use Rattle.space.specs.Says.{up_by}
use Rattle.image_layout.specs.Layouts.{stripes_of, block_bytes, cell_bytes, group_bytes, group_start, group_stripes, end_at}
use Rattle.image_layout.specs.Limits.{Accepted}
use Rattle.image_layout.specs.Stands.{Apart, Between}
use Rattle.image_layout.specs.declared.Layout.{Layout}
use Rattle.image_layout.proofs.UpLaws.{up_le, round_holds, round_le, round_whole}

-- the n bytes from a on lie in group j
pub record Inside (l : Layout) (j a n : ℕ) : Type 0 where
  pub group : j * l.group ≤ stripes_of l
  pub low : group_start l j ≤ a
  pub high : a + n ≤ group_start l j + group_bytes l (group_stripes l j)

module _ (l : Layout) (ok : Accepted l) where
  -- a group holds its cells and its checksum blocks
  pub bytes_hold : (m : ℕ) → cell_bytes l m + block_bytes l * up_by m l.unit ≤ group_bytes l m
  unfolding group_bytes
  bytes_hold m = round_holds (cell_bytes l m + block_bytes l * up_by m l.unit)

  bytes_le : (m n : ℕ) → m ≤ n → group_bytes l m ≤ group_bytes l n
  unfolding group_bytes cell_bytes
  bytes_le m n h =
      let c : l.width * m * l.cell_size ≤ l.width * n * l.cell_size = mul-le-mul_right l.cell_size (mul-le-mul_left l.width h) in
      let b : block_bytes l * up_by m l.unit ≤ block_bytes l * up_by n l.unit = mul-le-mul_left (block_bytes l) (up_le l.unit ok.unit m n h) in
      round_le (cell_bytes l m + block_bytes l * up_by m l.unit) (cell_bytes l n + block_bytes l * up_by n l.unit) (omega (arith, c, b))

  -- no group has more than g stripes
  pub stripes_few : (j : ℕ) → group_stripes l j ≤ l.group
  unfolding group_stripes
  stripes_few j = omega arith

  -- so it ends before the next begins
  pub next : (i j : ℕ) → i < j → group_start l i + group_bytes l (group_stripes l i) ≤ group_start l j
  unfolding group_start
  next i j h =
      let m : suc i * group_bytes l l.group ≤ j * group_bytes l l.group = mul-le-mul_right (group_bytes l l.group) h in
      omega (arith, m, bytes_le (group_stripes l i) l.group (stripes_few i))

  -- the last group has what is left of the stripes
  last_stripes : (j : ℕ) → j ≡ stripes_of l / l.group → group_stripes l j ≡ stripes_of l % l.group
  unfolding group_stripes
  last_stripes j e = omega (arith, div-add-mod' (stripes_of l) l.group, mod-lt (stripes_of l) ok.group, ap (λ (x : ℕ). x * l.group) e)

  -- every group ends at the second label or before
  pub group_ends : (j : ℕ) → j * l.group ≤ stripes_of l → group_start l j + group_bytes l (group_stripes l j) ≤ end_at l
  unfolding end_at
  group_ends j h = ⊎_elim last before (eq_or_lt j (stripes_of l / l.group) ((le-div_iff_mul-le ok.group).1 h))
    where
      last : j ≡ stripes_of l / l.group → group_start l j + group_bytes l (group_stripes l j) ≤ group_start l (stripes_of l / l.group) + group_bytes l (stripes_of l % l.group)
      last e = omega (arith, ap (group_start l) e, ap (group_bytes l) (last_stripes j e))

      before : j < stripes_of l / l.group → group_start l j + group_bytes l (group_stripes l j) ≤ group_start l (stripes_of l / l.group) + group_bytes l (stripes_of l % l.group)
      before b = omega (arith, next j (stripes_of l / l.group) b)

  pub start_after : (j : ℕ) → 4096 ≤ group_start l j
  unfolding group_start
  start_after j = omega arith

  -- what lies in a group lies between the labels, and apart from what lies in another
  pub inside_between : (j a n : ℕ) → Inside l j a n → Between l a n
  inside_between j a n q =
      record { after = omega (arith, start_after j, q.low); before = omega (arith, group_ends j q.group, q.high) }

  pub inside_apart : (i j a m b n : ℕ) → Inside l i a m → Inside l j b n → (i ≡ j → ⊥) → Apart a m b n
  inside_apart i j a m b n q r d =
      ⊎_elim (λ h. inl (omega (arith, next i j h, q.high, r.low))) (λ h. inr (omega (arith, next j i h, r.high, q.low))) (lt_or_gt i j d)

  -- groups begin at multiples of 4,096
  bytes_whole : (m : ℕ) → group_bytes l m % 4096 ≡ 0
  unfolding group_bytes
  bytes_whole m = round_whole (cell_bytes l m + block_bytes l * up_by m l.unit)

  pub start_whole : (j : ℕ) → group_start l j % 4096 ≡ 0
  unfolding group_start
  start_whole j =
      let q = group_bytes l l.group / 4096 in
      let e : group_bytes l l.group ≡ q * 4096 = omega (arith, bytes_whole l.group) in
      let f : j * group_bytes l l.group ≡ j * (q * 4096) = ap (λ (x : ℕ). j * x) e in
      omega (arith, f)

  pub end_whole : end_at l % 4096 ≡ 0
  unfolding end_at
  end_whole = omega (arith, start_whole (stripes_of l / l.group), bytes_whole (stripes_of l % l.group))
