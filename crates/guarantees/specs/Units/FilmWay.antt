-- From a film, by `encode_stripe` and `seal_unit`, to units and their blocks; then, whatever the
-- disks return for pieces and block, by `open_unit` and `film_bytes` back to the film.
use Rattle.std.specs.Prelude.{◌≡◌, true, false, List, ◌⊎◌, ℕ, ◌+◌, ◌*◌, ◌≤◌, ◌<◌, length, get_or, take, drop, replicate}
use Rattle.mathematics.specs.Xor.{all_bytes}
use Rattle.liberation.specs.Sets.{place}
use Rattle.liberation.specs.Stripes.Stripes.{cell_at, stripe_long}
use Rattle.refusals.specs.declared.answer.Answer.{Answer}
use Rattle.encode.specs.Says.{EncodeSays}
use Rattle.host_plans.specs.RebuildByPlanSays.{ByPlanSays}
use Rattle.rebuild_cells.specs.Theory.Mending.{Determined}
use Rattle.unit_sums.specs.Sums.{is_sealed, fits}
use Rattle.unit_sums.specs.Sealing.{SealSays}
use Rattle.unit_sums.specs.OnePiece.{FitSays, PieceCollision}
use Rattle.unit_sums.specs.Collisions.{Collision}
use Rattle.unit_opening.specs.Opening.{missing_pieces}
use Rattle.unit_opening.specs.Says.{OpenSays}
use Rattle.unit_film.specs.FilmOrder.{stripe_cell}
use Rattle.unit_film.specs.Says.{FilmBytesSays}
use Rattle.guarantees.specs.Limits.Limits.{Refuses}
use Rattle.guarantees.specs.Limits.UnitCalls.{open_unit, film_bytes}

-- ---- what was sealed
-- a film of n stripes with k × p data cells of s bytes each: data cell x of its stripe j is in t j
pub record Cut (p k s n : ℕ) (film : List ℕ) (t : ℕ → List ℕ) : Type 0 where
  pub long : length film ≡ n * (k * p * s)
  pub cells : (j x : ℕ) → j < n → x < k * p → cell_at s (t j) x ≡ cell_at s film (place (k * p) x j)

-- the stripes e 0, e 1 and so on together are the unit u: cell j of each piece is of stripe j
pub record Together (p k s n : ℕ) (e : ℕ → List ℕ) (u : List ℕ) : Type 0 where
  pub long : length u ≡ stripe_long p k (n * s)
  pub bytes : all_bytes u ≡ true
  pub cells : (j x : ℕ) → j < n → x < p * (k + 2) → stripe_cell s n u j x ≡ cell_at s (e j) x

-- a film was cut into stripes, these were encoded, and the unit u of them, unit v of the set, was
-- sealed by the block
pub record SealedFilm (p k s n : ℕ) (name : List ℕ) (v : ℕ) (film u block : List ℕ) : Type 0 where
  pub stripes : ℕ → List ℕ
  pub encoded : ℕ → List ℕ
  pub cut : Cut p k s n film stripes
  pub encodes : (j : ℕ) → j < n → (r : Answer) × EncodeSays p k s (stripes j) (encoded j) r × (r.refusal ≡ 0)
  pub together : Together p k s n encoded u
  pub room : List ℕ
  pub answer : Answer
  pub seals : SealSays p k s n name v u room block answer
  pub accepted : answer.refusal ≡ 0

-- ---- what is read
-- The assumption: a block b that ends with its guard is the one that was sealed. No guard can do
-- without it, for any sealed block is that of some unit.
abbrev pub Trusted : ℕ → ℕ → List ℕ → ℕ → List ℕ → List ℕ → Type 0
Trusted p k name v block b = is_sealed p k name v b ≡ true → b ≡ block

-- b and t are what the disks return for the block and for the unit u of the film
pub record FilmWay (p k s n : ℕ) (name : List ℕ) (v : ℕ) (film u b t : List ℕ) : Type 0 where
  -- all bytes that `film_bytes` hands out are the film's, or two pieces collide
  pub handed : (i : ℕ) (o o' : List ℕ) (r : Answer) → FilmBytesSays p k s n name v b t i o o' r → r.refusal ≡ 0 → (o' ≡ take (length o) (drop i film)) ⊎ Collision p k (n * s) name v t u
  -- it refuses exactly outside the limits of the call, of which the last, 24, is that the block and
  -- the pieces that the bytes lie in fit
  pub refused : (i : ℕ) (o o' : List ℕ) (r : Answer) → FilmBytesSays p k s n name v b t i o o' r → Refuses (film_bytes p k s n name v b t i o) (o' ≡ o) r
  -- an accepted opening gives the unit as it was sealed, or two pieces collide
  pub opened : (ms ms' t' : List ℕ) (r : Answer) → OpenSays p k s n name v b ms ms' t t' r → r.refusal ≡ 0 → ((t' ≡ u) × (ms' ≡ replicate (p * (k + 2)) 0)) ⊎ Collision p k (n * s) name v t u
  -- it refuses exactly outside the limits of the call: 24 for the block, then 23 where the pieces
  -- that fit do not determine the others
  pub unopened : (ms ms' t' : List ℕ) (r : Answer) → OpenSays p k s n name v b ms ms' t t' r → Refuses (open_unit p k s n name v b ms t) ((ms' ≡ ms) × (t' ≡ t)) r
  -- and then `film_bytes` hands out all of the film
  pub played :
      (ms ms' t' : List ℕ) (r : Answer) → OpenSays p k s n name v b ms ms' t t' r → r.refusal ≡ 0
      → (i : ℕ) (o o' : List ℕ) (q : Answer) → FilmBytesSays p k s n name v b t' i o o' q → i + length o ≤ length film
      → ((q.refusal ≡ 0) × (o' ≡ take (length o) (drop i film))) ⊎ Collision p k (n * s) name v t u
  -- where each unmarked piece is as it was sealed, or does not fit, and the pieces that fit
  -- determine the others, the unit comes back: no collision is then to be feared
  pub brought_back :
      (ms ms' t' : List ℕ) (r : Answer) → OpenSays p k s n name v b ms ms' t t' r
      → is_sealed p k name v b ≡ true → length t ≡ length u → length ms ≡ p * (k + 2)
      → ((x : ℕ) → x < p * (k + 2) → get_or ms x 0 ≡ 0 → (cell_at (n * s) t x ≡ cell_at (n * s) u x) ⊎ (fits p (n * s) name v b t x ≡ false))
      → Determined p k (n * s) (missing_pieces p k (n * s) name v b ms t)
      → (r.refusal ≡ 0) × (t' ≡ u) × (ms' ≡ replicate (p * (k + 2)) 0)
  -- a piece that `piece_fits` accepts, wherever it comes from, is the one that was sealed, or the
  -- two collide
  pub piece :
      (c i : ℕ) (x : List ℕ) (r : Answer) → FitSays p k s n name v b c i x r → r.refusal ≡ 0
      → (x ≡ cell_at (n * s) u (place p i c)) ⊎ PieceCollision p name v (place p i c) x (cell_at (n * s) u (place p i c))

-- ---- one disk rebuilt
-- x is the piece of row i of disk f, rebuilt by `rebuild_by_plan` with the plan bs from each stripe
-- that was read
pub record RebuiltPiece (p k s n f : ℕ) (bs : List ℕ) (i : ℕ) (x : List ℕ) : Type 0 where
  pub read : ℕ → List ℕ
  pub column : ℕ → List ℕ
  pub rebuilds : (j : ℕ) → j < n → (o : List ℕ) × (r : Answer) × ByPlanSays p k s f bs (read j) o (column j) r × (r.refusal ≡ 0)
  pub long : length x ≡ n * s
  pub cells : (j : ℕ) → j < n → cell_at s x j ≡ cell_at s (column j) i
