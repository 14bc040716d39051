-- The refusals and the promise of `film_bytes`: p rows, k data disks, n stripes with cells of s
-- bytes.
use Rattle.std.specs.Prelude.{◌≡◌, Bool, ◌&&◌, not, List, ℕ, ◌+◌, ◌-◌, ◌*◌, ◌/◌, ◌%◌, min, eqb, ltb, length, take, drop}
use Rattle.mathematics.specs.Choice.{pick, when, first_of}
use Rattle.mathematics.specs.Sums.{all_to}
use Rattle.refusals.specs.declared.answer.Answer.{Answer}
use Rattle.refusals.specs.Answers.{Answers}
use Rattle.unit_sums.specs.Sums.{is_sealed, fits}
use Rattle.unit_sums.specs.Refusals.{unit_refusal}
use Rattle.unit_film.specs.FilmOrder.{film_of}

-- 5: m bytes from byte i on go past byte e
abbrev pub range_refusal : ℕ → ℕ → ℕ → ℕ
range_refusal e i m = when (ltb e (i + m)) 5

-- 1, 13, 2, 25 and 5: a, b and l are the lengths of the set's name, of the block and of the unit,
-- and m bytes are asked for from byte i of the film on
abbrev pub film_limits : ℕ → ℕ → ℕ → ℕ → ℕ → ℕ → ℕ → ℕ → ℕ → ℕ
film_limits p k s n a b l i m = first_of (unit_refusal p k s n a b l) (range_refusal (k * (p * (n * s))) i m)

-- how many cells of s bytes the m bytes from byte i on lie in, the first being cell i / s
abbrev pub cell_count : ℕ → ℕ → ℕ → ℕ
cell_count s i m = (i + m + (s - 1)) / s - i / s

-- c data pieces of s bytes from place x on have the checksums that the block has; after the last
-- data place comes the first
abbrev pub fit_around : ℕ → ℕ → ℕ → List ℕ → ℕ → List ℕ → List ℕ → ℕ → ℕ → Bool
fit_around p k s name unit block t c x = all_to c (λ i. fits p s name unit block t ((x + i) % (k * p)))

-- the block is sealed, and the pieces that these m bytes lie in fit: a cell of the film after the
-- other is at the next place, and no place is compared twice
abbrev pub is_film_proved : ℕ → ℕ → ℕ → ℕ → List ℕ → ℕ → List ℕ → List ℕ → ℕ → ℕ → Bool
is_film_proved p k s n name unit block t i m =
    is_sealed p k name unit block && fit_around p k (n * s) name unit block t (min (cell_count s i m) (k * p)) (i / s)

-- then 24
abbrev pub film_bytes_refusal : ℕ → ℕ → ℕ → ℕ → List ℕ → ℕ → List ℕ → List ℕ → ℕ → ℕ → ℕ
film_bytes_refusal p k s n name unit block t i m =
    first_of (film_limits p k s n (length name) (length block) (length t) i m) (when (not (is_film_proved p k s n name unit block t i m)) 24)

-- out becomes o', the bytes of film from byte i on, or is unchanged on a refusal
pub record FilmBytesSays (p k s n : ℕ) (name : List ℕ) (unit : ℕ) (block t : List ℕ) (i : ℕ) (o o' : List ℕ) (r : Answer) : Type 0 where
  pub answer : Answers (film_bytes_refusal p k s n name unit block t i (length o)) r
  pub out : o' ≡ pick (eqb (film_bytes_refusal p k s n name unit block t i (length o)) 0) (take (length o) (drop i (film_of p k s n t))) o
