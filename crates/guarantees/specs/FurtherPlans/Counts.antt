-- The ones of a read list on one disk, and the fair share.
use Rattle.std.specs.Prelude.{List, ℕ, ◌+◌, ◌*◌, ◌/◌, take, drop}
use Rattle.mathematics.specs.Sums.{ones_in}

-- how many of the p bytes of disk c in a list are 1: "place c × p + i for cell (i, c)"
abbrev pub ones_on : ℕ → ℕ → List ℕ → ℕ
ones_on p c o = ones_in (take p (drop (c * p) o))

-- (3p - 1)/4 rounded up
abbrev pub share : ℕ → ℕ
share p = (3 * p + 2) / 4
