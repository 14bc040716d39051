-- Cells of a group stand in its first p·G·s bytes, at places i·G + r with r below G, which tell row
-- and stripe apart as two digits do.
use mathlib.Core.Path.{◌≡◌, sym, ap, ◌∙◌}
use mathlib.Core.Logic.{inl, inr, ⊎_elim}
use Prim.Native.Nat.{ℕ, suc, ◌+◌, ◌-◌, ◌*◌, ◌/◌, ◌%◌, ◌≤◌, ◌<◌}
use native.Mathlib.Nat.{div-add-mod', mod-lt, mul-le-mul_right}
use native.Mathlib.Omega.{arith}
use lib.Arith.{digits_lt, digits_div, digits_mod}
use Rattle.mathematics.proofs.OrderLaws.{eq_or_ne, lt_or_gt}
use Rattle.image_layout.specs.Layouts.{stripes_of, cell_bytes, group_start, group_stripes, cell_in, cell_at}
use Rattle.image_layout.specs.Limits.{Accepted}
use Rattle.image_layout.specs.Stands.{Apart, IsCell}
use Rattle.image_layout.specs.declared.Layout.{Layout}
use Rattle.image_layout.proofs.GroupLaws.{Inside, bytes_hold, inside_apart}

-- places of two digits are one only where both digits are
digits_same : (g i a j b : ℕ) → a < g → b < g → i * g + a ≡ j * g + b → (i ≡ j) × (a ≡ b)
digits_same g i a j b ha hb e =
    (sym (digits_div i ha) ∙ ap (λ (x : ℕ). x / g) e ∙ digits_div j hb, sym (digits_mod i ha) ∙ ap (λ (x : ℕ). x % g) e ∙ digits_mod j hb)

-- s bytes for each place: another place, other bytes
places_apart : (o s x y : ℕ) → (x ≡ y → ⊥) → Apart (o + x * s) s (o + y * s) s
places_apart o s x y d =
    ⊎_elim (λ h. let m : suc x * s ≤ y * s = mul-le-mul_right s h in inl (omega arith)) (λ h. let m : suc y * s ≤ x * s = mul-le-mul_right s h in inr (omega arith)) (lt_or_gt x y d)

-- stripe n of group j
pub record InGroup (l : Layout) (j n : ℕ) : Type 0 where
  pub from : j * l.group ≤ n
  pub below : n - j * l.group < group_stripes l j

module _ (l : Layout) (ok : Accepted l) where
  -- the group of a stripe
  pub stripe_in : (n : ℕ) → n < stripes_of l → InGroup l (n / l.group) n
  unfolding group_stripes
  stripe_in n h =
      let e = div-add-mod' n l.group in
      let m = mod-lt n ok.group in
      record { from = omega (arith, e); below = omega (arith, e, m) }

  -- a cell ends within the cells of its group
  pub cell_ends : (j i n : ℕ) → i < l.width → InGroup l j n → cell_in l j i n + l.cell_size ≤ group_start l j + cell_bytes l (group_stripes l j)
  unfolding cell_in cell_bytes
  cell_ends j i n r q =
      let x = i * group_stripes l j + (n - j * l.group) in
      let d : x < l.width * group_stripes l j = digits_lt r q.below in
      let m : suc x * l.cell_size ≤ l.width * group_stripes l j * l.cell_size = mul-le-mul_right l.cell_size d in
      omega (arith, m)

  cell_low : (j i n : ℕ) → group_start l j ≤ cell_in l j i n
  unfolding cell_in
  cell_low j i n = omega arith

  pub cell_inside : (i n : ℕ) → IsCell l i n → Inside l (n / l.group) (cell_at l i n) l.cell_size
  unfolding cell_at
  cell_inside i n c =
      let j = n / l.group in
      let q = stripe_in n c.stripe in
      record { group = omega (arith, q.from, c.stripe); low = cell_low j i n; high = omega (arith, cell_ends j i n c.row q, bytes_hold l ok (group_stripes l j)) }

  -- two cells of one group
  cells_in : (j i m k n : ℕ) → InGroup l j m → InGroup l j n → (i ≡ k → m ≡ n → ⊥) → Apart (cell_in l j i m) l.cell_size (cell_in l j k n) l.cell_size
  unfolding cell_in
  cells_in j i m k n q r d =
      let G = group_stripes l j in
      places_apart (group_start l j) l.cell_size (i * G + (m - j * l.group)) (k * G + (n - j * l.group)) (λ e. let t = digits_same G i (m - j * l.group) k (n - j * l.group) q.below r.below e in d t.0 (omega (arith, t.1, q.from, r.from)))

  cells_same : (i m k n : ℕ) → IsCell l i m → IsCell l k n → (i ≡ k → m ≡ n → ⊥) → m / l.group ≡ n / l.group → Apart (cell_at l i m) l.cell_size (cell_at l k n) l.cell_size
  unfolding cell_at
  cells_same i m k n a b d e =
      let q : InGroup l (m / l.group) n = rw e (stripe_in n b.stripe) in
      rw (sym e) (cells_in (m / l.group) i m k n (stripe_in m a.stripe) q d)

  pub cells_apart : (i m k n : ℕ) → IsCell l i m → IsCell l k n → (i ≡ k → m ≡ n → ⊥) → Apart (cell_at l i m) l.cell_size (cell_at l k n) l.cell_size
  cells_apart i m k n a b d = ⊎_elim (cells_same i m k n a b d) other (eq_or_ne (m / l.group) (n / l.group))
    where
      other : (m / l.group ≡ n / l.group → ⊥) → Apart (cell_at l i m) l.cell_size (cell_at l k n) l.cell_size
      other z = inside_apart l ok (m / l.group) (n / l.group) (cell_at l i m) l.cell_size (cell_at l k n) l.cell_size (cell_inside i m a) (cell_inside k n b) z
