-- The limits of the calls on units in plain words, in the order in which they are tested: p rows, k
-- data disks, n stripes with cells of s bytes; `name` is the set's name, v the number of the unit, b
-- its checksum block, t the unit.
use Rattle.std.specs.Prelude.{◌≡◌, true, List, ℕ, ◌+◌, ◌*◌, ◌/◌, ◌%◌, ◌≤◌, ◌<◌, min, length}
use Rattle.liberation.specs.Sets.{place}
use Rattle.rebuild_cells.specs.Theory.Mending.{Determined}
use Rattle.unit_sums.specs.Sums.{is_sealed, fits}
use Rattle.unit_sums.specs.OnePiece.{fits_at}
use Rattle.unit_opening.specs.Opening.{missing_pieces}
use Rattle.unit_film.specs.Says.{cell_count}
use Rattle.guarantees.specs.Limits.Limits.{Limits, by, ◌then◌}
use Rattle.guarantees.specs.Limits.Calls.{array, shape, disk, long}

-- 25: no stripes, or pieces of more than 32,768 bytes
abbrev pub unit_numbers : ℕ → ℕ → ℕ → ℕ → Limits
unit_numbers p k s n = shape p k s then by 25 ((1 ≤ n) × (n * s ≤ 32768))

-- name and block, and t of q bytes
abbrev pub unit_lengths : ℕ → ℕ → ℕ → List ℕ → List ℕ → List ℕ → Limits
unit_lengths p k q name b t = long 16 name then (long (p * (k + 2) * 8 + 8) b then long q t)

-- `seal_unit`
abbrev pub seal_unit : ℕ → ℕ → ℕ → ℕ → List ℕ → List ℕ → List ℕ → Limits
seal_unit p k s n name b t = unit_numbers p k s n then unit_lengths p k ((k + 2) * (p * (n * s))) name b t

-- `open_unit`: ms marks the missing pieces; 24 for a block without its guard, 23 where the pieces
-- that are not marked and fit do not determine the others
abbrev pub open_unit : ℕ → ℕ → ℕ → ℕ → List ℕ → ℕ → List ℕ → List ℕ → List ℕ → Limits
open_unit p k s n name v b ms t =
    (seal_unit p k s n name b t then long (p * (k + 2)) ms)
    then (by 24 (is_sealed p k name v b ≡ true) then by 23 (Determined p k (n * s) (missing_pieces p k (n * s) name v b ms t)))

-- `film_bytes`: bytes i on, as many as o has; the pieces that they lie in have to fit, those of the
-- first cell on, and after the last data piece comes the first
abbrev pub film_bytes : ℕ → ℕ → ℕ → ℕ → List ℕ → ℕ → List ℕ → List ℕ → ℕ → List ℕ → Limits
film_bytes p k s n name v b t i o =
    (seal_unit p k s n name b t then by 5 (i + length o ≤ k * (p * (n * s))))
    then by 24 ((is_sealed p k name v b ≡ true) × ((d : ℕ) → d < min (cell_count s i (length o)) (k * p) → fits p (n * s) name v b t ((i / s + d) % (k * p)) ≡ true))

-- `block_fits`
abbrev pub block_fits : ℕ → ℕ → List ℕ → ℕ → List ℕ → Limits
block_fits p k name v b = (array p k then (long 16 name then long (p * (k + 2) * 8 + 8) b)) then by 24 (is_sealed p k name v b ≡ true)

-- `piece_fits`: the piece x of row i of disk c
abbrev pub piece_fits : ℕ → ℕ → ℕ → ℕ → List ℕ → ℕ → List ℕ → ℕ → ℕ → List ℕ → Limits
piece_fits p k s n name v b c i x =
    (unit_numbers p k s n then (disk k c then (unit_lengths p k (n * s) name b x then by 15 (i < p))))
    then by 24 ((is_sealed p k name v b ≡ true) × (fits_at p name v b (place p i c) x ≡ true))
