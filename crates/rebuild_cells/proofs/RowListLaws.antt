-- Lists of equations, and the lists of their words and of their sums: what a row has, and rows that
-- are stored, added or exchanged.
use mathlib.Core.Path.{◌≡◌, sym, ap, ap₂, ◌∙◌}
use mathlib.Core.Bool.{Bool, true, not, ◌&&◌}
use mathlib.Core.List.{List, [], ◌∷◌, map}
use Prim.Native.Nat.{ℕ, ◌<◌}
use native.Mathlib.Omega.{arith}
use lib.Bits.{bit_xor}
use lib.ListN.{length, get_or, set}
use Rattle.std.proofs.lemmas.List.{get_or-map}
use lib.Seq.{map-set}
use borrow.Author.Tests.{ne_eqb}
use Rattle.std.specs.List.{swap}
use Rattle.mathematics.specs.Choice.{pick}
use Rattle.mathematics.specs.BitRows.Rows.{rows, has, row_added, row_cleared, exchanged, pivoted}
use Rattle.rebuild_cells.specs.declared.reduction.Row.{Row}
use Rattle.rebuild_cells.specs.RowLists.{words_of, sums_of, rows_of}

abbrev pub no_row : Row
no_row = record { word = 0; sum = 0 }

-- a row's word, and its sum
pub word_at : (rs : List Row) (i : ℕ) → i < length rs → (get_or rs i no_row).word ≡ get_or (words_of rs) i 0
word_at rs i h = sym (get_or-map (λ (r : Row). r.word) rs i no_row 0 h)

pub sum_at : (rs : List Row) (i : ℕ) → i < length rs → (get_or rs i no_row).sum ≡ get_or (sums_of rs) i 0
sum_at rs i h = sym (get_or-map (λ (r : Row). r.sum) rs i no_row 0 h)

-- row b added to row i
pub row_plus :
    (rs : List Row) (b i : ℕ) → b < length rs → i < length rs → (i ≡ b → ⊥) → has (rows_of rs) i b ≡ true
    → rows_of (set rs i (record { word = bit_xor (get_or rs i no_row).word (get_or rs b no_row).word; sum = bit_xor (get_or rs i no_row).sum (get_or rs b no_row).sum })) ≡ row_cleared b i (rows_of rs)
row_plus rs b i hb hi n e =
    ap₂ rows
    (map-set (λ (r : Row). r.word) rs i _ ∙ ap₂ (λ (x y : ℕ). set (words_of rs) i (bit_xor x y)) (word_at rs i hi) (word_at rs b hb))
    (map-set (λ (r : Row). r.sum) rs i _ ∙ ap₂ (λ (x y : ℕ). set (sums_of rs) i (bit_xor x y)) (sum_at rs i hi) (sum_at rs b hb))
    ∙ sym (ap₂ (λ (x y : Bool). pick (not x && y) (row_added i b (rows_of rs)) (rows_of rs)) (ne_eqb i b n) e)

-- the rows b and j exchanged
swapped : (f : Row → ℕ) (rs : List Row) (b j : ℕ) → b < length rs → j < length rs → map f (swap rs b j) ≡ exchanged b j (map f rs)
swapped f [] b j hb hj = absurd (omega arith)
swapped f (r ∷ rs) b j hb hj =
    map-set f (set (r ∷ rs) b (get_or (r ∷ rs) j r)) j (get_or (r ∷ rs) b r)
    ∙ ap₂ (λ (l : List ℕ) (y : ℕ). set l j y) (map-set f (r ∷ rs) b (get_or (r ∷ rs) j r) ∙ ap (set (map f (r ∷ rs)) b) (sym (get_or-map f (r ∷ rs) j r 0 hj))) (sym (get_or-map f (r ∷ rs) b r 0 hb))

pub rows_swapped : (rs : List Row) (b j : ℕ) → b < length rs → j < length rs → rows_of (swap rs b j) ≡ pivoted b j (rows_of rs)
rows_swapped rs b j hb hj = ap₂ rows (swapped (λ (r : Row). r.word) rs b j hb hj) (swapped (λ (r : Row). r.sum) rs b j hb hj)
