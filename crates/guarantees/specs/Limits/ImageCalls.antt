-- The limits of the calls on the layout of images in plain words, in the order in which they are
-- tested: l is the layout, i a row, n a stripe or a byte of the film, v a unit.
use Rattle.std.specs.Prelude.{ℕ, ◌^◌, ◌≤◌, ◌<◌}
use Rattle.image_layout.specs.declared.Layout.{Layout}
use Rattle.image_layout.specs.Layouts.{stripes_of, units_of}
use Rattle.image_layout.specs.Limits.{Fits}
use Rattle.guarantees.specs.Limits.Limits.{Limits, by, ◌then◌}
use Rattle.guarantees.specs.Limits.Calls.{shape}

-- `image_bytes`: 11 for the bytes of the film, 25 for the stripes of a unit and of a group
abbrev pub layout : Layout → Limits
layout l = shape l.width l.disks l.cell_size then (by 11 (l.length ≤ 2 ^ 48) then by 25 (Fits l.unit l.cell_size l.group))

-- `cell_place`
abbrev pub cell_place : Layout → ℕ → ℕ → Limits
cell_place l i n = layout l then by 26 ((i < l.width) × (n < stripes_of l))

-- `block_place`
abbrev pub block_place : Layout → ℕ → Limits
block_place l v = layout l then by 26 (v < units_of l)

-- `unit_place`
abbrev pub unit_place : Layout → ℕ → ℕ → Limits
unit_place l i v = block_place l v then by 26 (i < l.width)

-- `film_place`
abbrev pub film_place : Layout → ℕ → Limits
film_place l n = layout l then by 26 (n < l.length)
