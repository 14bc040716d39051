-- Checksums of a unit (layout 2, section 1). A unit lies in memory as one stripe whose cells are its
-- pieces: p rows, k data disks, pieces of s bytes, one after another by place. The set has a name
-- of 16 bytes, and the unit a number in the set.
use Rattle.std.specs.Prelude.{Bool, List, [], ◌∷◌, ◌++◌, ℕ, zero, suc, ◌+◌, ◌*◌, ◌/◌, ◌%◌, take, drop}
use Rattle.mathematics.specs.Lists.{same}
use Rattle.liberation.specs.Sets.{row_at, disk_at}
use Rattle.liberation.specs.Stripes.Stripes.{cell_at}
use Rattle.xxh64.specs.Checksum.{xxh64}

-- a number as n bytes, the lowest first
unfoldable pub little_endian : ℕ → ℕ → List ℕ
little_endian zero x = []
little_endian (suc n) x = x % 256 ∷ little_endian n (x / 256)

-- what a seed is the checksum of: set, disk, row, unit
unfoldable pub place_bytes : List ℕ → ℕ → ℕ → ℕ → List ℕ
place_bytes name disk row unit = name ++ (little_endian 4 disk ++ (little_endian 4 row ++ little_endian 8 unit))

unfoldable pub seed_of : List ℕ → ℕ → ℕ → ℕ → ℕ
seed_of name disk row unit = xxh64 (place_bytes name disk row unit) 0

-- the seed of the piece at place x
abbrev pub seed_at : ℕ → List ℕ → ℕ → ℕ → ℕ
seed_at p name unit x = seed_of name (disk_at p x) (row_at p x) unit

-- the checksum of a piece at place x
abbrev pub sum_of : ℕ → List ℕ → ℕ → ℕ → List ℕ → ℕ
sum_of p name unit x piece = xxh64 piece (seed_at p name unit x)

-- the checksums of n pieces from place x on, eight bytes each
unfoldable pub sums_from : ℕ → ℕ → ℕ → ℕ → List ℕ → ℕ → List ℕ → List ℕ
sums_from zero x p s name unit t = []
sums_from (suc n) x p s name unit t = little_endian 8 (sum_of p name unit x (cell_at s t x)) ++ sums_from n (suc x) p s name unit t

abbrev pub sums_of : ℕ → ℕ → ℕ → List ℕ → ℕ → List ℕ → List ℕ
sums_of p k s name unit t = sums_from (p * (k + 2)) 0 p s name unit t

-- the checksum of the checksums
abbrev pub guard_of : List ℕ → ℕ → List ℕ → ℕ
guard_of name unit sums = xxh64 sums (seed_of name 4294967295 4294967295 unit)

-- the checksum block of a unit: the checksums of all pieces, then the guard
unfoldable pub block_of : ℕ → ℕ → ℕ → List ℕ → ℕ → List ℕ → List ℕ
block_of p k s name unit t = sums_of p k s name unit t ++ little_endian 8 (guard_of name unit (sums_of p k s name unit t))

abbrev pub block_long : ℕ → ℕ → ℕ
block_long p k = p * (k + 2) * 8 + 8

-- a block ends with its guard
unfoldable pub is_sealed : ℕ → ℕ → List ℕ → ℕ → List ℕ → Bool
is_sealed p k name unit block = same (drop (p * (k + 2) * 8) block) (little_endian 8 (guard_of name unit (take (p * (k + 2) * 8) block)))

-- piece x of t has the checksum that the block has
unfoldable pub fits : ℕ → ℕ → List ℕ → ℕ → List ℕ → List ℕ → ℕ → Bool
fits p s name unit block t x = same (cell_at 8 block x) (little_endian 8 (sum_of p name unit x (cell_at s t x)))
