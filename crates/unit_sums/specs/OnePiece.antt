-- One piece compared with the checksum that a block has at its place: the refusals, the promise,
-- and what a collision of two pieces of a place is.
use Rattle.std.specs.Prelude.{◌≡◌, Bool, ◌&&◌, not, List, ℕ, ◌*◌, leb, length}
use Rattle.mathematics.specs.Choice.{when, first_of}
use Rattle.mathematics.specs.Lists.{same}
use Rattle.liberation.specs.Sets.{disk_refusal, place}
use Rattle.liberation.specs.Stripes.Stripes.{cell_at}
use Rattle.refusals.specs.declared.answer.Answer.{Answer}
use Rattle.refusals.specs.Answers.{Answers}
use Rattle.unit_sums.specs.Sums.{little_endian, sum_of, is_sealed}
use Rattle.unit_sums.specs.Refusals.{numbers_refusal, lengths_refusal}

-- the piece has the checksum that the block has at place x
unfoldable pub fits_at : ℕ → List ℕ → ℕ → List ℕ → ℕ → List ℕ → Bool
fits_at p name unit block x piece = same (cell_at 8 block x) (little_endian 8 (sum_of p name unit x piece))

-- the block is sealed, and the piece of row i of disk c fits
abbrev pub is_piece_proved : ℕ → ℕ → List ℕ → ℕ → List ℕ → ℕ → ℕ → List ℕ → Bool
is_piece_proved p k name unit block c i piece = is_sealed p k name unit block && fits_at p name unit block (place p i c) piece

-- 15: "row p or more"
abbrev pub row_refusal : ℕ → ℕ → ℕ
row_refusal p i = when (leb p i) 15

-- 1, 13, 2, 25, 3, 5 and 15: a, b and l are the lengths of the set's name, of the block and of the
-- piece
abbrev pub piece_refusal : ℕ → ℕ → ℕ → ℕ → ℕ → ℕ → ℕ → ℕ → ℕ → ℕ
piece_refusal p k s n c i a b l =
    first_of (numbers_refusal p k s n) (first_of (disk_refusal k c) (first_of (lengths_refusal p k (n * s) a b l) (row_refusal p i)))

-- then 24
abbrev pub fit_refusal : ℕ → ℕ → ℕ → ℕ → List ℕ → ℕ → List ℕ → ℕ → ℕ → List ℕ → ℕ
fit_refusal p k s n name unit block c i piece =
    first_of (piece_refusal p k s n c i (length name) (length block) (length piece)) (when (not (is_piece_proved p k name unit block c i piece)) 24)

pub record FitSays (p k s n : ℕ) (name : List ℕ) (unit : ℕ) (block : List ℕ) (c i : ℕ) (piece : List ℕ) (r : Answer) : Type 0 where
  pub answer : Answers (fit_refusal p k s n name unit block c i piece) r

-- two different pieces of one length have one checksum at place x
pub record PieceCollision (p : ℕ) (name : List ℕ) (unit x : ℕ) (a b : List ℕ) : Type 0 where
  pub long : length a ≡ length b
  pub apart : a ≡ b → ⊥
  pub sums : sum_of p name unit x a ≡ sum_of p name unit x b
