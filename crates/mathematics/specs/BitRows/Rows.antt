-- Equations over bits, one a row: bit b of a row's word says that unknown b is in it, and bit i of
-- its second word that the given equation i was added to make it.
-- They are reduced one unknown after another: two rows are exchanged, or one is added to another.
use Rattle.std.specs.Prelude.{Bool, not, ◌&&◌, List, ℕ, zero, suc, ◌-◌, eqb, ltb, get_or, set}
use Rattle.std.specs.Int.Bits.{bit_xor}
use Rattle.mathematics.specs.Choice.{pick}
use Rattle.mathematics.specs.Sums.{first_from}
use Rattle.mathematics.specs.BitRows.Parity.{bit}

pub record Rows : Type 0 where
  pub words : List ℕ
  pub sums : List ℕ

abbrev pub rows : List ℕ → List ℕ → Rows
rows ws ts = record { words = ws; sums = ts }

-- unknown b is in row j
abbrev pub has : Rows → ℕ → ℕ → Bool
has r j b = bit (get_or r.words j 0) b

-- word i becomes the sum of the words i and j, and row i that of the rows
abbrev pub plus : ℕ → ℕ → List ℕ → List ℕ
plus i j ws = set ws i (bit_xor (get_or ws i 0) (get_or ws j 0))

abbrev pub row_added : ℕ → ℕ → Rows → Rows
row_added i j r = rows (plus i j r.words) (plus i j r.sums)

-- row b is added to row i if that is another one and has unknown b; and so for n rows from i on
abbrev pub row_cleared : ℕ → ℕ → Rows → Rows
row_cleared b i r = pick (not (eqb i b) && has r i b) (row_added i b r) r

unfoldable pub cleared_from : ℕ → ℕ → ℕ → Rows → Rows
cleared_from zero b i r = r
cleared_from (suc n) b i r = cleared_from n b (suc i) (row_cleared b i r)

-- of n rows the first from row b on that has unknown b, else n
abbrev pub pivot : ℕ → ℕ → Rows → ℕ
pivot n b r = first_from (n - b) b (λ j. has r j b)

-- that row, j, takes the place of row b, and row b its place
abbrev pub exchanged : ℕ → ℕ → List ℕ → List ℕ
exchanged b j ws = set (set ws b (get_or ws j 0)) j (get_or ws b 0)

abbrev pub pivoted : ℕ → ℕ → Rows → Rows
pivoted b j r = rows (exchanged b j r.words) (exchanged b j r.sums)

-- then row b is the only one with unknown b
abbrev pub column_done : ℕ → ℕ → ℕ → Rows → Rows
column_done n b j r = cleared_from n b 0 (pivoted b j r)

-- how many unknowns are done, and the rows then
pub record Reduced : Type 0 where
  pub done : ℕ
  pub left : Rows

abbrev pub reduction : ℕ → Rows → Reduced
reduction b r = record { done = b; left = r }

-- m unknowns from b on in n rows, up to the first that no row from its own on has
unfoldable pub reduced_from : ℕ → ℕ → ℕ → Rows → Reduced
reduced_from zero n b r = reduction b r
reduced_from (suc m) n b r = pick (ltb (pivot n b r) n) (reduced_from m n (suc b) (column_done n b (pivot n b r) r)) (reduction b r)
