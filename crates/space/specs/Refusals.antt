-- The refusals of the space call (document 01, "Run and space"; document 02, asks 1 and 3).
-- p is the width, k the number of data disks, s the bytes of a cell, ls the lengths of the files.
use Rattle.std.specs.Prelude.{List, ℕ, ◌^◌, ltb, length}
use Rattle.mathematics.specs.Choice.{first_of, when}
use Rattle.mathematics.specs.Sums.{total}
use Rattle.liberation.specs.Sets.{shape_refusal}

-- refusal 14: "more than 4,096 files"
abbrev pub files_refusal : List ℕ → ℕ
files_refusal ls = when (ltb 4096 (length ls)) 14

-- refusal 11: "L over 2^48", L being "the sum of lengths"
abbrev pub package_refusal : ℕ → ℕ
package_refusal l = when (ltb (2 ^ 48) l) 11

-- the space call refuses by 1, 13, 2, 14 and 11
abbrev pub space_refusal : ℕ → ℕ → ℕ → List ℕ → ℕ
space_refusal p k s ls = first_of (shape_refusal p k s) (first_of (files_refusal ls) (package_refusal (total ls)))
