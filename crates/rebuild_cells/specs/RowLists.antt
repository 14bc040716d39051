-- A list of equations as the words and the sums of their rows, and a row that a search found.
use Rattle.std.specs.Prelude.{List, ℕ, Option, Some, None, map}
use Rattle.mathematics.specs.BitRows.Rows.{Rows, rows}
use Rattle.rebuild_cells.specs.declared.reduction.Row.{Row}

abbrev pub words_of : List Row → List ℕ
words_of rs = map (λ (r : Row). r.word) rs

abbrev pub sums_of : List Row → List ℕ
sums_of rs = map (λ (r : Row). r.sum) rs

abbrev pub rows_of : List Row → Rows
rows_of rs = rows (words_of rs) (sums_of rs)

-- the row that was found among n rows, n where there is none
abbrev pub row_or_end : ℕ → Option ℕ → ℕ
row_or_end n None = n
row_or_end n (Some j) = j
