-- Refusals 1, 13, 2, 25 and 5 of the calls on a unit: p rows, k data disks, n stripes with cells of
-- s bytes; a, b and l are the lengths of the set's name, of the checksum block and of the unit.
use Rattle.std.specs.Prelude.{◌||◌, not, ℕ, ◌*◌, eqb, ltb}
use Rattle.mathematics.specs.Choice.{when, first_of}
use Rattle.liberation.specs.Limits.{largest_cell}
use Rattle.liberation.specs.Sets.{shape_refusal}
use Rattle.liberation.specs.Stripes.Stripes.{stripe_long}
use Rattle.unit_sums.specs.Sums.{block_long}

-- 25: no stripes, or pieces of more than 32,768 bytes, which one stripe, refused by 2 from 4,097
-- on, never has
abbrev pub stripes_refusal : ℕ → ℕ → ℕ
stripes_refusal s n = when (eqb n 0 || ltb largest_cell (n * s)) 25

-- 1, 13, 2 and 25
abbrev pub numbers_refusal : ℕ → ℕ → ℕ → ℕ → ℕ
numbers_refusal p k s n = first_of (shape_refusal p k s) (stripes_refusal s n)

-- 5: a slice of l bytes where q are required
abbrev pub length_refusal : ℕ → ℕ → ℕ
length_refusal q l = when (not (eqb l q)) 5

-- 5 for the name, for the block, and for l bytes where q are required
abbrev pub lengths_refusal : ℕ → ℕ → ℕ → ℕ → ℕ → ℕ → ℕ
lengths_refusal p k q a b l = first_of (length_refusal 16 a) (first_of (length_refusal (block_long p k) b) (length_refusal q l))

-- 1, 13, 2, 25 and 5
abbrev pub unit_refusal : ℕ → ℕ → ℕ → ℕ → ℕ → ℕ → ℕ → ℕ
unit_refusal p k s n a b l = first_of (numbers_refusal p k s n) (lengths_refusal p k (stripe_long p k (n * s)) a b l)
