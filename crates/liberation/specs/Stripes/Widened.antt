-- A part-filled array's stripe in the full array (document 02, ask 1): "Data disks k to p - 1 are
-- absent: their cells leave every set and count as zero."
use Rattle.std.specs.Prelude.{List, ◌++◌, ℕ, ◌-◌, ◌*◌, take, drop, replicate}

-- the full stripe with zeros in the place of the absent data disks
unfoldable pub widened : ℕ → ℕ → ℕ → List ℕ → List ℕ
widened p k s t = take (k * (p * s)) t ++ (replicate ((p - k) * (p * s)) 0 ++ drop (k * (p * s)) t)
