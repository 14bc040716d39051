-- The refusals of a layout and of a place in it (layout 2, section 1, "Limits"), and what they
-- leave.
use Rattle.std.specs.Prelude.{◌≡◌, ◌⊎◌, Bool, ◌&&◌, ◌||◌, not, ℕ, ◌*◌, ◌%◌, ◌^◌, ◌≤◌, ◌<◌, eqb, ltb, leb}
use Rattle.mathematics.specs.Choice.{when, first_of}
use Rattle.liberation.specs.Sets.{shape_refusal}
use Rattle.liberation.specs.Limits.{InArray}
use Rattle.space.specs.Refusals.{package_refusal}
use Rattle.image_layout.specs.Layouts.{stripes_of, units_of}
use Rattle.image_layout.specs.declared.Layout.{Layout}

-- "u·s ≤ 32,768 or u = 1, u divides g, g ≤ 65,536", and neither is 0
abbrev pub is_group : ℕ → ℕ → ℕ → Bool
is_group u s g = ltb 0 u && ((leb (u * s) 32768 || eqb u 1) && (ltb 0 g && (leb g 65536 && eqb (g % u) 0)))

-- refusal 25
abbrev pub group_refusal : ℕ → ℕ → ℕ → ℕ
group_refusal u s g = when (not (is_group u s g)) 25

-- what refusal 25 leaves of u stripes a unit with cells of s bytes, and g stripes a group
pub record Fits (u s g : ℕ) : Type 0 where
  pub unit : 0 < u
  pub piece : (u * s ≤ 32768) ⊎ (u ≡ 1)
  pub group : 0 < g
  pub most : g ≤ 65536
  pub whole : g % u ≡ 0

-- a layout is refused by 1, 13, 2, then 11 for "length ≤ 2⁴⁸", then 25
abbrev pub layout_refusal : Layout → ℕ
layout_refusal l =
    first_of (shape_refusal l.width l.disks l.cell_size) (first_of (package_refusal l.length) (group_refusal l.unit l.cell_size l.group))

-- refusal 26: no row or no stripe of the layout, no unit, no byte of the film
abbrev pub cell_refusal : Layout → ℕ → ℕ → ℕ
cell_refusal l i n = first_of (layout_refusal l) (when (not (ltb i l.width && ltb n (stripes_of l))) 26)

abbrev pub block_refusal : Layout → ℕ → ℕ
block_refusal l v = first_of (layout_refusal l) (when (not (ltb v (units_of l))) 26)

abbrev pub unit_refusal : Layout → ℕ → ℕ → ℕ
unit_refusal l i v = first_of (block_refusal l v) (when (not (ltb i l.width)) 26)

abbrev pub film_refusal : Layout → ℕ → ℕ
film_refusal l n = first_of (layout_refusal l) (when (not (ltb n l.length)) 26)

-- what refusals 1, 13, 2, 11 and 25 leave, as far as places go by it
pub record Accepted (l : Layout) : Type 0 where
  pub array : InArray l.width l.disks
  pub some : 0 < l.cell_size
  pub small : l.cell_size ≤ 4096
  pub length : l.length ≤ 2 ^ 48
  pub unit : 0 < l.unit
  pub group : 0 < l.group
  pub most : l.group ≤ 65536
  pub whole : l.group % l.unit ≡ 0
