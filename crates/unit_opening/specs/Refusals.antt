-- The refusals of `open_unit`: p rows, k data disks, n stripes with cells of s bytes.
use Rattle.std.specs.Prelude.{not, List, ℕ, ◌+◌, ◌*◌, length}
use Rattle.mathematics.specs.Choice.{when, first_of}
use Rattle.rebuild_cells.specs.Theory.Mending.{mendable}
use Rattle.unit_sums.specs.Sums.{is_sealed}
use Rattle.unit_sums.specs.Refusals.{length_refusal, unit_refusal}
use Rattle.unit_opening.specs.Opening.{missing_pieces}

-- 1, 13, 2, 25, and 5, also for the marks: a, b, l and m are the lengths of the set's name, of the
-- block, of the unit and of the marks
abbrev pub open_limits : ℕ → ℕ → ℕ → ℕ → ℕ → ℕ → ℕ → ℕ → ℕ
open_limits p k s n a b l m = first_of (unit_refusal p k s n a b l) (length_refusal (p * (k + 2)) m)

-- then 24 for a block that is not sealed, and 23: the other pieces do not determine the missing ones
abbrev pub open_refusal : ℕ → ℕ → ℕ → ℕ → List ℕ → ℕ → List ℕ → List ℕ → List ℕ → ℕ
open_refusal p k s n name unit block ms t =
    first_of (open_limits p k s n (length name) (length block) (length t) (length ms))
    (first_of (when (not (is_sealed p k name unit block)) 24) (when (not (mendable p k (missing_pieces p k (n * s) name unit block ms t))) 23))
