-- Two lost data disks x and y of an array with p rows and k data disks.
use Rattle.std.specs.Prelude.{List, ℕ, ltb}
use Rattle.mathematics.specs.Choice.{pick}
use Rattle.liberation.specs.TwoDisks.Pairs.{walked}
use Rattle.liberation.specs.TwoDisksBySums.Sums.{sum_walked}

-- they are walked, from sums or to disk 0
abbrev pub walked_by : ℕ → ℕ → ℕ → ℕ → ℕ → List ℕ → List ℕ
walked_by p k s x y t = pick (ltb 0 y) (sum_walked p k s x y t) (walked p k s x 0 t)
