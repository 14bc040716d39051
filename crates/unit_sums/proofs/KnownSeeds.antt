-- The seed and the checksum that the layout of images gives as examples, computed from the
-- definitions: set 00 01 .. 0f, disk 3, row 1, unit 5; the piece 00 01 .. 1f. With seven rows the
-- place of that piece is 22.
use mathlib.Core.Path.{◌≡◌, refl}
use mathlib.Core.List.{List, [], ◌∷◌}
use Prim.Native.Nat.{ℕ}
use Rattle.xxh64.specs.Checksum.{add, mul, rotl, folded, number, word, round, merge, converge, stripes, start, eight, four, one, words, rest, avalanche, xxh64}
use Rattle.unit_sums.specs.Sums.{little_endian, place_bytes, seed_of, sum_of}

pub set : List ℕ
set = 0 ∷ 1 ∷ 2 ∷ 3 ∷ 4 ∷ 5 ∷ 6 ∷ 7 ∷ 8 ∷ 9 ∷ 10 ∷ 11 ∷ 12 ∷ 13 ∷ 14 ∷ 15 ∷ []

pub piece : List ℕ
piece = 0 ∷ 1 ∷ 2 ∷ 3 ∷ 4 ∷ 5 ∷ 6 ∷ 7 ∷ 8 ∷ 9 ∷ 10 ∷ 11 ∷ 12 ∷ 13 ∷ 14 ∷ 15 ∷ 16 ∷ 17 ∷ 18 ∷ 19 ∷ 20 ∷ 21 ∷ 22 ∷ 23 ∷ 24 ∷ 25 ∷ 26 ∷ 27 ∷ 28 ∷ 29 ∷ 30 ∷ 31 ∷ []

pub known_seed : seed_of set 3 1 5 ≡ 0x675A2E4543205DC1
unfolding set little_endian place_bytes seed_of add mul rotl folded number word round merge converge stripes start eight four one words rest avalanche xxh64
known_seed = refl

pub known_sum : sum_of 7 set 5 22 piece ≡ 0xE7109BC990F3C432
unfolding set piece little_endian place_bytes seed_of add mul rotl folded number word round merge converge stripes start eight four one words rest avalanche xxh64
known_sum = refl
