-- Known sums of XXH64, computed from the definition: each row is bytes, a seed and the sum that the
-- public implementations give.
use mathlib.Core.Path.{◌≡◌, refl}
use mathlib.Core.Bool.{Bool, true, ◌&&◌}
use mathlib.Core.List.{List, [], ◌∷◌, ◌++◌}
use Prim.Native.Nat.{ℕ}
use lib.Dec.{eqb}
use Rattle.xxh64.specs.Checksum.{add, mul, rotl, folded, number, word, round, merge, converge, stripes, start, eight, four, one, words, rest, avalanche, xxh64}

pub record Known : Type 0 where
  pub bytes : List ℕ
  pub seed : ℕ
  pub total : ℕ

pub known : List ℕ → ℕ → ℕ → Known
known bytes seed total = record { bytes = bytes; seed = seed; total = total }

-- "Nobody inspects the spammish repetition", 39 bytes: a stripe, then 4 + 1 + 1 + 1
pub nobody : List ℕ
nobody =
    78 ∷ 111 ∷ 98 ∷ 111 ∷ 100 ∷ 121 ∷ 32 ∷ 105 ∷ 110 ∷ 115 ∷ 112 ∷ 101 ∷ 99 ∷ 116 ∷ 115 ∷ 32
    ∷ 116 ∷ 104 ∷ 101 ∷ 32 ∷ 115 ∷ 112 ∷ 97 ∷ 109 ∷ 109 ∷ 105 ∷ 115 ∷ 104 ∷ 32
    ∷ 114 ∷ 101 ∷ 112 ∷ 101 ∷ 116 ∷ 105 ∷ 116 ∷ 105 ∷ 111 ∷ 110 ∷ []

-- "1234567890" eight times: two stripes, then 8 + 8
pub ten : List ℕ
ten = 49 ∷ 50 ∷ 51 ∷ 52 ∷ 53 ∷ 54 ∷ 55 ∷ 56 ∷ 57 ∷ 48 ∷ []

pub eighty : List ℕ
eighty = ten ++ (ten ++ (ten ++ (ten ++ (ten ++ (ten ++ (ten ++ ten))))))

-- "message digest": 8 + 4 + 1 + 1
pub digest : List ℕ
digest = 109 ∷ 101 ∷ 115 ∷ 115 ∷ 97 ∷ 103 ∷ 101 ∷ 32 ∷ 100 ∷ 105 ∷ 103 ∷ 101 ∷ 115 ∷ 116 ∷ []

-- also nothing, "a" and "abc"
pub table : List Known
table =
    known [] 0 0xEF46DB3751D8E999
    ∷ known [] 0x9E3779B1 0xAC75FDA2929B17EF
    ∷ known (97 ∷ []) 0 0xD24EC4F1A98C6E5B
    ∷ known (97 ∷ 98 ∷ 99 ∷ []) 0 0x44BC2CF5AD770999
    ∷ known digest 0 0x066ED728FCEEB3BE
    ∷ known nobody 0 0xFBCEA83C8A378BF1
    ∷ known eighty 0 0xE04A477F19EE145D
    ∷ known eighty 0x9E3779B1 0x6CE04B7D2AED6957
    ∷ []

pub holds : List Known → Bool
holds [] = true
holds (row ∷ rows) = eqb (xxh64 row.bytes row.seed) row.total && holds rows

pub known_sums : holds table ≡ true
unfolding known nobody ten eighty digest table holds add mul rotl folded number word round merge converge stripes start eight four one words rest avalanche xxh64
known_sums = refl
