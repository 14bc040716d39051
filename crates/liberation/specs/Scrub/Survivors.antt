-- The inconsistent disk, and a rebuild with tested survivors (document 02, asks 2 and 11): p rows,
-- k data disks, cells of s bytes.
-- A disk fits if the stripe is clean once that disk is rebuilt from the others. The same is told by
-- p equations of surviving cells alone (document 000's decoding equations, those without a cell of
-- the disk).
use Rattle.std.specs.Prelude.{Bool, List, [], ◌∷◌, ◌++◌, ℕ, suc, ◌+◌, eqb, ltb, replicate}
use Rattle.mathematics.specs.Choice.{pick}
use Rattle.mathematics.specs.Lists.{same}
use Rattle.mathematics.specs.Sums.{all_to, first_below}
use Rattle.liberation.specs.Sets.{row_set, diagonal_set, lost_in, surviving_in}
use Rattle.liberation.specs.Stripes.Stripes.{cell_at, xor_over, clean, with_column, rebuilt}

-- the stripe with disk d rebuilt from the others
abbrev pub with_rebuilt : ℕ → ℕ → ℕ → ℕ → List ℕ → List ℕ
with_rebuilt p k s d t = with_column p s d (rebuilt p k s d t) t

-- "replacing that disk's cells alone can make it so" (proofs/scrub/Explaining.antt): rebuilding it does
unfoldable pub fits : ℕ → ℕ → ℕ → ℕ → List ℕ → Bool
fits p k s d t = clean p k s (with_rebuilt p k s d t)

-- the first disk that fits, k + 2 if none does
unfoldable pub suspect : ℕ → ℕ → ℕ → List ℕ → ℕ
suspect p k s t = first_below (k + 2) (λ d. fits p k s d t)

-- the three answers of ask 2, "clean, one disk's number, or more than one". 0: the stripe is clean;
-- 1: one disk explains it, the suspect; 2: no one disk does
unfoldable pub verdict : ℕ → ℕ → ℕ → List ℕ → ℕ
verdict p k s t = pick (clean p k s t) 0 (pick (ltb (suspect p k s t) (k + 2)) 1 2)

-- the row sets of several rows, one after another
unfoldable pub row_sets : ℕ → ℕ → List ℕ → List ℕ
row_sets p k [] = []
row_sets p k (r ∷ rs) = row_set p k r ++ row_sets p k rs

-- equation i of disk d, as the cells of its sets: R i for Q; for any other disk D i and the row set
-- of each row that D i has on d. Each cell on d is in it twice or not at all, and cancels.
unfoldable pub equation : ℕ → ℕ → ℕ → ℕ → List ℕ
equation p k d i = pick (eqb d (suc k)) (row_set p k i) (diagonal_set p k i ++ row_sets p k (lost_in p d (diagonal_set p k i)))

-- it holds: its surviving cells XOR to zero
abbrev pub equation_holds : ℕ → ℕ → ℕ → ℕ → List ℕ → ℕ → Bool
equation_holds p k s d t i = same (xor_over s (cell_at s t) (surviving_in p d (equation p k d i))) (replicate s 0)

unfoldable pub equations_hold : ℕ → ℕ → ℕ → ℕ → List ℕ → Bool
equations_hold p k s d t = all_to p (λ i. equation_holds p k s d t i)
