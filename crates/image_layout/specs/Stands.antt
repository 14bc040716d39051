-- What holds of every accepted layout: nothing in an image overlaps, all of it lies between the two
-- labels, and each byte of the film has one place.
use Rattle.std.specs.Prelude.{◌≡◌, ◌⊎◌, ℕ, ◌+◌, ◌*◌, ◌/◌, ◌%◌, ◌≤◌, ◌<◌}
use Rattle.image_layout.specs.Layouts.{stripes_of, units_of, block_bytes, group_start, cell_at, block_at, unit_first, unit_stripes, piece_at, piece_bytes, end_at, image_bytes, film_stripe, film_disk, film_row, film_offset, film_at, film_byte}
use Rattle.image_layout.specs.Says.{CellSays, BlockSays}
use Rattle.image_layout.specs.declared.Layout.{Layout}
use Rattle.image_layout.specs.declared.Place.{Place}

-- the m bytes from a on and the n bytes from b on: no byte is among both
abbrev pub Apart : ℕ → ℕ → ℕ → ℕ → Type 0
Apart a m b n = (a + m ≤ b) ⊎ (b + n ≤ a)

-- n bytes from a on lie after the first label and before the second
pub record Between (l : Layout) (a n : ℕ) : Type 0 where
  pub after : 4096 ≤ a
  pub before : a + n ≤ end_at l

-- a cell of the layout: row i of stripe n
pub record IsCell (l : Layout) (i n : ℕ) : Type 0 where
  pub row : i < l.width
  pub stripe : n < stripes_of l

-- a byte of a data cell: disk c, row i, byte b of the cell
pub record IsData (l : Layout) (c i b : ℕ) : Type 0 where
  pub disk : c < l.disks
  pub row : i < l.width
  pub byte : b < l.cell_size

-- cells and checksum blocks in an image
pub record ImageStands (l : Layout) : Type 0 where
  -- cells of another row or stripe do not overlap
  pub cells : (i m j n : ℕ) → IsCell l i m → IsCell l j n → (i ≡ j → m ≡ n → ⊥) → Apart (cell_at l i m) l.cell_size (cell_at l j n) l.cell_size
  -- nor does a cell overlap a checksum block
  pub cell_block : (i n v : ℕ) → IsCell l i n → v < units_of l → Apart (cell_at l i n) l.cell_size (block_at l v) (block_bytes l)
  -- nor do the checksum blocks of two units
  pub blocks : (v w : ℕ) → v < units_of l → w < units_of l → (v ≡ w → ⊥) → Apart (block_at l v) (block_bytes l) (block_at l w) (block_bytes l)
  -- all lie between the labels
  pub cell_between : (i n : ℕ) → IsCell l i n → Between l (cell_at l i n) l.cell_size
  pub block_between : (v : ℕ) → v < units_of l → Between l (block_at l v) (block_bytes l)
  -- groups and the second label begin at multiples of 4,096, and the image ends with that label
  pub starts : (j : ℕ) → group_start l j % 4096 ≡ 0
  pub ends : end_at l % 4096 ≡ 0
  pub bytes : image_bytes l ≡ end_at l + 4096

-- pieces: the cells of a row of a unit, side by side
pub record PiecesStand (l : Layout) : Type 0 where
  -- stripe x of a unit is one of the layout, and of that unit
  pub stripe : (v x : ℕ) → v < units_of l → x < unit_stripes l v → unit_first l v + x < stripes_of l
  pub unit : (v x : ℕ) → v < units_of l → x < unit_stripes l v → (unit_first l v + x) / l.unit ≡ v
  -- every stripe is one of a unit
  pub has_unit : (n : ℕ) → n < stripes_of l → n / l.unit < units_of l
  pub in_unit : (n : ℕ) → n < stripes_of l → n % l.unit < unit_stripes l (n / l.unit)
  -- its cell is cell x of the piece
  pub cell : (i v x : ℕ) → i < l.width → v < units_of l → x < unit_stripes l v → cell_at l i (unit_first l v + x) ≡ piece_at l i v + x * l.cell_size
  -- a piece is its unit's cells and no more, and has at least one
  pub bytes : (v : ℕ) → piece_bytes l v ≡ unit_stripes l v * l.cell_size
  pub some : (v : ℕ) → v < units_of l → 0 < unit_stripes l v

-- the film on the data cells
pub record FilmStands (l : Layout) : Type 0 where
  -- the place of a byte is one of the layout
  pub is_data : (n : ℕ) → IsData l (film_disk l n) (film_row l n) (film_offset l n)
  pub stripe : (n : ℕ) → n < l.length → film_stripe l n < stripes_of l
  -- and is its alone
  pub back : (n : ℕ) → film_byte l (film_stripe l n) (film_disk l n) (film_row l n) (film_offset l n) ≡ n
  -- every place of a data cell is the place of the byte that its number says
  pub of_stripe : (m c i b : ℕ) → IsData l c i b → film_stripe l (film_byte l m c i b) ≡ m
  pub of_disk : (m c i b : ℕ) → IsData l c i b → film_disk l (film_byte l m c i b) ≡ c
  pub of_row : (m c i b : ℕ) → IsData l c i b → film_row l (film_byte l m c i b) ≡ i
  pub of_byte : (m c i b : ℕ) → IsData l c i b → film_offset l (film_byte l m c i b) ≡ b
  -- two bytes of the film that stand at one place of one image are one
  pub once : (m n : ℕ) → m < l.length → n < l.length → film_disk l m ≡ film_disk l n → film_at l m ≡ film_at l n → m ≡ n

-- The answers of accepted calls on one layout: the bytes that two of them name are apart, unless
-- the calls are for one cell or for one unit, and lie between the labels.
pub record AnswersStand (l : Layout) : Type 0 where
  pub cells : (i m j n : ℕ) (a b : Place) → CellSays l i m a → CellSays l j n b → a.answer.refusal ≡ 0 → b.answer.refusal ≡ 0 → (i ≡ j → m ≡ n → ⊥) → Apart a.at a.bytes b.at b.bytes
  pub cell_block : (i n v : ℕ) (a b : Place) → CellSays l i n a → BlockSays l v b → a.answer.refusal ≡ 0 → b.answer.refusal ≡ 0 → Apart a.at a.bytes b.at b.bytes
  pub blocks : (v w : ℕ) (a b : Place) → BlockSays l v a → BlockSays l w b → a.answer.refusal ≡ 0 → b.answer.refusal ≡ 0 → (v ≡ w → ⊥) → Apart a.at a.bytes b.at b.bytes
  pub cell_between : (i n : ℕ) (a : Place) → CellSays l i n a → a.answer.refusal ≡ 0 → Between l a.at a.bytes
  pub block_between : (v : ℕ) (a : Place) → BlockSays l v a → a.answer.refusal ≡ 0 → Between l a.at a.bytes
