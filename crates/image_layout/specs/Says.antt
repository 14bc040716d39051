-- The promises of the calls on a layout, for accepted and refused calls alike.
use Rattle.std.specs.Prelude.{◌≡◌, ℕ, eqb}
use Rattle.mathematics.specs.Choice.{pick}
use Rattle.refusals.specs.Answers.{Answers}
use Rattle.image_layout.specs.Layouts.{stripes_of, units_of, block_bytes, cell_at, block_at, unit_first, unit_stripes, piece_at, piece_bytes, end_at, image_bytes, film_stripe, film_disk, film_row, film_offset, film_at}
use Rattle.image_layout.specs.Limits.{layout_refusal, cell_refusal, block_refusal, unit_refusal, film_refusal}
use Rattle.image_layout.specs.declared.Layout.{Layout}
use Rattle.image_layout.specs.declared.Image.{Image}
use Rattle.image_layout.specs.declared.Place.{Place}
use Rattle.image_layout.specs.declared.UnitPlace.{UnitPlace}
use Rattle.image_layout.specs.declared.FilmPlace.{FilmPlace}

-- the number n of an answer by the refusal m: 0 where the call is refused
abbrev pub unless : ℕ → ℕ → ℕ
unless m n = pick (eqb m 0) n 0

-- the promise of `image_bytes`
pub record ImageSays (l : Layout) (r : Image) : Type 0 where
  pub answer : Answers (layout_refusal l) r.answer
  pub stripes : r.stripes ≡ unless (layout_refusal l) (stripes_of l)
  pub units : r.units ≡ unless (layout_refusal l) (units_of l)
  pub end : r.end ≡ unless (layout_refusal l) (end_at l)
  pub bytes : r.bytes ≡ unless (layout_refusal l) (image_bytes l)

-- a refusal of `image_bytes` by m
pub record ImageRefused (m : ℕ) (r : Image) : Type 0 where
  pub answer : Answers m r.answer
  pub stripes : r.stripes ≡ 0
  pub units : r.units ≡ 0
  pub end : r.end ≡ 0
  pub bytes : r.bytes ≡ 0

-- a refusal by m, or n bytes from a on
pub record PlaceSays (m a n : ℕ) (r : Place) : Type 0 where
  pub answer : Answers m r.answer
  pub at : r.at ≡ unless m a
  pub bytes : r.bytes ≡ unless m n

-- the promise of `cell_place`, for row i of stripe n
abbrev pub CellSays : Layout → ℕ → ℕ → Place → Type 0
CellSays l i n r = PlaceSays (cell_refusal l i n) (cell_at l i n) l.cell_size r

-- the promise of `block_place`, for unit v
abbrev pub BlockSays : Layout → ℕ → Place → Type 0
BlockSays l v r = PlaceSays (block_refusal l v) (block_at l v) (block_bytes l) r

-- the promise of `unit_place`, for row i of unit v
pub record UnitSays (l : Layout) (i v : ℕ) (r : UnitPlace) : Type 0 where
  pub answer : Answers (unit_refusal l i v) r.answer
  pub first : r.first ≡ unless (unit_refusal l i v) (unit_first l v)
  pub stripes : r.stripes ≡ unless (unit_refusal l i v) (unit_stripes l v)
  pub at : r.at ≡ unless (unit_refusal l i v) (piece_at l i v)
  pub bytes : r.bytes ≡ unless (unit_refusal l i v) (piece_bytes l v)

-- a refusal of `unit_place` by m
pub record UnitRefused (m : ℕ) (r : UnitPlace) : Type 0 where
  pub answer : Answers m r.answer
  pub first : r.first ≡ 0
  pub stripes : r.stripes ≡ 0
  pub at : r.at ≡ 0
  pub bytes : r.bytes ≡ 0

-- the promise of `film_place`, for byte n of the film
pub record FilmSays (l : Layout) (n : ℕ) (r : FilmPlace) : Type 0 where
  pub answer : Answers (film_refusal l n) r.answer
  pub stripe : r.stripe ≡ unless (film_refusal l n) (film_stripe l n)
  pub disk : r.disk ≡ unless (film_refusal l n) (film_disk l n)
  pub row : r.row ≡ unless (film_refusal l n) (film_row l n)
  pub byte : r.byte ≡ unless (film_refusal l n) (film_offset l n)
  pub at : r.at ≡ unless (film_refusal l n) (film_at l n)

-- a refusal of `film_place` by m
pub record FilmRefused (m : ℕ) (r : FilmPlace) : Type 0 where
  pub answer : Answers m r.answer
  pub stripe : r.stripe ≡ 0
  pub disk : r.disk ≡ 0
  pub row : r.row ≡ 0
  pub byte : r.byte ≡ 0
  pub at : r.at ≡ 0
