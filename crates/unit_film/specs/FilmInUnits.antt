-- A byte of the film of a set, in the unit of its stripe. Units are counted over the set, u stripes
-- each, the last one what is left of the stripes.
use Rattle.std.specs.Prelude.{◌≡◌, List, ℕ, ◌+◌, ◌-◌, ◌*◌, ◌/◌, ◌%◌, ◌<◌, min, length, get_or}
use Rattle.liberation.specs.Sets.{place}
use Rattle.liberation.specs.Stripes.Stripes.{cell_at, stripe_long}
use Rattle.image_layout.specs.Layouts.{film_bytes, stripes_of, units_of, film_stripe, film_disk, film_row, film_offset}
use Rattle.image_layout.specs.declared.Layout.{Layout}
use Rattle.unit_film.specs.FilmOrder.{film_of}

-- the stripes of unit v
abbrev pub unit_stripes : Layout → ℕ → ℕ
unit_stripes l v = min l.unit (stripes_of l - v * l.unit)

-- the unit of byte m of the film, and the number of that byte in the film of the unit
abbrev pub unit_of : Layout → ℕ → ℕ
unit_of l m = film_stripe l m / l.unit

abbrev pub unit_byte : Layout → ℕ → ℕ
unit_byte l m = m - unit_of l m * (l.unit * film_bytes l)

-- the bytes of a piece of unit v
abbrev pub piece_bytes : Layout → ℕ → ℕ
piece_bytes l v = unit_stripes l v * l.cell_size

-- byte y of the film of unit v, whose bytes are t, is byte b of its piece of row i of disk c
abbrev pub InPiece : Layout → ℕ → List ℕ → ℕ → ℕ → ℕ → ℕ → Type 0
InPiece l v t y c i b =
    get_or (film_of l.width l.disks l.cell_size (unit_stripes l v) t) y 0 ≡ get_or (cell_at (piece_bytes l v) t (place l.width i c)) b 0

pub record FilmInUnit (l : Layout) (m : ℕ) : Type 0 where
  -- the unit is one of the set, the stripe one of the unit, and the byte one of its film
  pub unit : unit_of l m < units_of l
  pub stripe : film_stripe l m % l.unit < unit_stripes l (unit_of l m)
  pub byte : unit_byte l m < unit_stripes l (unit_of l m) * film_bytes l
  -- it lies in the piece of its disk and row, in its stripe's cell
  pub film : (t : List ℕ) → length t ≡ stripe_long l.width l.disks (piece_bytes l (unit_of l m)) → InPiece l (unit_of l m) t (unit_byte l m) (film_disk l m) (film_row l m) (film_stripe l m % l.unit * l.cell_size + film_offset l m)
