-- Where cells, checksum blocks and the second label stand in an image (layout 2, section 1, "Set
-- and image"; quoted). Of a layout, p is the width, k the data disks, s the bytes of a cell, u the
-- stripes of a unit, g the stripes of a group.
use Rattle.std.specs.Prelude.{ℕ, ◌+◌, ◌-◌, ◌*◌, ◌/◌, ◌%◌, min}
use Rattle.liberation.specs.Sets.{place, row_at, disk_at}
use Rattle.space.specs.Says.{up_by, stripe_holds}
use Rattle.image_layout.specs.declared.Layout.{Layout}

-- k·p·s: the bytes of film that a stripe holds
abbrev pub film_bytes : Layout → ℕ
film_bytes l = stripe_holds l.width l.disks l.cell_size

-- "N = ⌈length/(k·p·s)⌉" stripes
unfoldable pub stripes_of : Layout → ℕ
stripes_of l = up_by l.length (film_bytes l)

-- a checksum block "a unit", the last unit being of what is left of the stripes
unfoldable pub units_of : Layout → ℕ
units_of l = up_by (stripes_of l) l.unit

-- "L = 8·p·(k + 2) + 8": a sum for each row of each disk, then the guard
unfoldable pub block_bytes : Layout → ℕ
block_bytes l = 8 * (l.width * (l.disks + 2)) + 8

-- "rounded up to 4,096"
unfoldable pub rounded : ℕ → ℕ
rounded bytes = up_by bytes 4096 * 4096

-- "p·G·s": the cells of a group of G stripes
unfoldable pub cell_bytes : Layout → ℕ → ℕ
cell_bytes l G = l.width * G * l.cell_size

-- a group of G stripes: its cells, "L·⌈G/u⌉", "then zeros to a multiple of 4,096"
unfoldable pub group_bytes : Layout → ℕ → ℕ
group_bytes l G = rounded (cell_bytes l G + block_bytes l * up_by G l.unit)

-- "b(j) = 4,096 + j·B", B being the bytes of a group of g stripes
unfoldable pub group_start : Layout → ℕ → ℕ
group_start l j = 4096 + j * group_bytes l l.group

-- "G = min(g, N − j·g)": the stripes of group j
unfoldable pub group_stripes : Layout → ℕ → ℕ
group_stripes l j = min l.group (stripes_of l - j * l.group)

-- "cell of row i of stripe n at b(j) + (i·G + n − j·g)·s", stripe n being of group j
unfoldable pub cell_in : Layout → ℕ → ℕ → ℕ → ℕ
cell_in l j i n = group_start l j + (i * group_stripes l j + (n - j * l.group)) * l.cell_size

unfoldable pub cell_at : Layout → ℕ → ℕ → ℕ
cell_at l i n = cell_in l (n / l.group) i n

-- from "b(j) + p·G·s" on the checksum blocks of group j, "one a unit": unit v begins with stripe
-- v·u, and a whole group has g/u units
unfoldable pub block_in : Layout → ℕ → ℕ → ℕ
block_in l j v = group_start l j + cell_bytes l (group_stripes l j) + (v - j * (l.group / l.unit)) * block_bytes l

unfoldable pub block_at : Layout → ℕ → ℕ
block_at l v = block_in l (v * l.unit / l.group) v

-- A unit: from stripe v·u on, u stripes, "the last unit: fewer"
abbrev pub unit_first : Layout → ℕ → ℕ
unit_first l v = v * l.unit

unfoldable pub unit_stripes : Layout → ℕ → ℕ
unit_stripes l v = min l.unit (stripes_of l - v * l.unit)

-- "A piece is the u cells (the last unit: fewer) of one row of one unit on one disk": it begins with the cell of the
-- unit's first stripe
unfoldable pub piece_at : Layout → ℕ → ℕ → ℕ
piece_at l i v = cell_at l i (unit_first l v)

unfoldable pub piece_bytes : Layout → ℕ → ℕ
piece_bytes l v = unit_stripes l v * l.cell_size

-- "E = 4,096 + B·⌊N/g⌋ + (the last, short group's bytes rounded up to 4,096)": the second label
unfoldable pub end_at : Layout → ℕ
end_at l = group_start l (stripes_of l / l.group) + group_bytes l (stripes_of l % l.group)

-- "the image ends at E + 4,096"
unfoldable pub image_bytes : Layout → ℕ
image_bytes l = end_at l + 4096

-- Byte n of the film: its stripe; the number of its cell there, by columns, which says its disk and
-- its row; its byte within the cell.
abbrev pub film_stripe : Layout → ℕ → ℕ
film_stripe l n = n / film_bytes l

abbrev pub film_cell : Layout → ℕ → ℕ
film_cell l n = n % film_bytes l / l.cell_size

abbrev pub film_disk : Layout → ℕ → ℕ
film_disk l n = disk_at l.width (film_cell l n)

abbrev pub film_row : Layout → ℕ → ℕ
film_row l n = row_at l.width (film_cell l n)

abbrev pub film_offset : Layout → ℕ → ℕ
film_offset l n = n % film_bytes l % l.cell_size

-- where it stands in the image of its disk
unfoldable pub film_at : Layout → ℕ → ℕ
film_at l n = cell_at l (film_row l n) (film_stripe l n) + film_offset l n

-- and back: cell (i, c) of a stripe holds the film from its byte (c·p + i)·s on
abbrev pub film_byte : Layout → ℕ → ℕ → ℕ → ℕ → ℕ
film_byte l stripe c i byte = stripe * film_bytes l + (place l.width i c * l.cell_size + byte)
