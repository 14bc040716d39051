-- XXH64, a checksum of 64 bits, as its public specification has it ("XXH64 algorithm description",
-- steps 1 to 6): bytes and numbers are natural numbers, and sums and products are mod 2^64.
use Rattle.std.specs.Prelude.{List, [], ◌∷◌, ℕ, zero, suc, ◌+◌, ◌-◌, ◌*◌, ◌/◌, ◌%◌, ◌^◌, length, take, drop}
use Rattle.std.specs.Int.Bits.{bit_xor}

-- PRIME64_1 to PRIME64_5
abbrev pub prime1 : ℕ
prime1 = 0x9E3779B185EBCA87

abbrev pub prime2 : ℕ
prime2 = 0xC2B2AE3D27D4EB4F

abbrev pub prime3 : ℕ
prime3 = 0x165667B19E3779F9

abbrev pub prime4 : ℕ
prime4 = 0x85EBCA77C2B2AE63

abbrev pub prime5 : ℕ
prime5 = 0x27D4EB2F165667C5

-- words of 64 bits: their sum, their product, x <<< k, and x ^ (x >> k)
unfoldable pub add : ℕ → ℕ → ℕ
add a b = (a + b) % 2 ^ 64

unfoldable pub mul : ℕ → ℕ → ℕ
mul a b = (a * b) % 2 ^ 64

unfoldable pub rotl : ℕ → ℕ → ℕ
rotl x k = (x * 2 ^ k) % 2 ^ 64 + x / 2 ^ (64 - k)

unfoldable pub folded : ℕ → ℕ → ℕ
folded x k = bit_xor x (x / 2 ^ k)

-- bytes as a number, the lowest first; the number that the n bytes from place i on are
unfoldable pub number : List ℕ → ℕ
number [] = 0
number (b ∷ bs) = b + 256 * number bs

unfoldable pub word : ℕ → ℕ → List ℕ → ℕ
word n i bs = number (take n (drop i bs))

-- a word into an accumulator, an accumulator into the sum, and the four accumulators into one sum
unfoldable pub round : ℕ → ℕ → ℕ
round acc lane = mul (rotl (add acc (mul lane prime2)) 31) prime1

unfoldable pub merge : ℕ → ℕ → ℕ
merge sum acc = add (mul (bit_xor sum (round 0 acc)) prime1) prime4

unfoldable pub converge : ℕ → ℕ → ℕ → ℕ → ℕ
converge a b c d =
    merge (merge (merge (merge (add (add (add (rotl a 1) (rotl b 7)) (rotl c 12)) (rotl d 18)) a) b) c) d

-- n stripes from place i on, each of four lanes, into the accumulators a b c d, which then converge
unfoldable pub stripes : ℕ → ℕ → List ℕ → ℕ → ℕ → ℕ → ℕ → ℕ
stripes zero i bs a b c d = converge a b c d
stripes (suc n) i bs a b c d =
    stripes n (i + 32) bs
    (round a (word 8 i bs))
    (round b (word 8 (i + 8) bs))
    (round c (word 8 (i + 16) bs))
    (round d (word 8 (i + 24) bs))

-- steps 1 to 3, of n whole stripes of 32 bytes: with none, the accumulators are left out
unfoldable pub start : ℕ → List ℕ → ℕ → ℕ
start zero bs seed = add seed prime5
start (suc n) bs seed =
    stripes (suc n) 0 bs (add (add seed prime1) prime2) (add seed prime2) seed (add seed (2 ^ 64 - prime1))

-- step 5: eight bytes, four and one into the sum
unfoldable pub eight : ℕ → ℕ → ℕ
eight sum lane = add (mul (rotl (bit_xor sum (round 0 lane)) 27) prime1) prime4

unfoldable pub four : ℕ → ℕ → ℕ
four sum lane = add (mul (rotl (bit_xor sum (mul lane prime1)) 23) prime2) prime3

unfoldable pub one : ℕ → ℕ → ℕ
one sum lane = mul (rotl (bit_xor sum (mul lane prime5)) 11) prime1

-- n words of so many bytes from place i on, each mixed into the sum
unfoldable pub words : (ℕ → ℕ → ℕ) → ℕ → ℕ → ℕ → List ℕ → ℕ → ℕ
words mixed size zero i bs sum = sum
words mixed size (suc n) i bs sum = words mixed size n (i + size) bs (mixed sum (word size i bs))

-- the bytes after the last whole stripe: by eights, a four if there is one, then by ones
unfoldable pub rest : ℕ → List ℕ → ℕ → ℕ
rest len bs sum =
    words one 1 (len % 4) (len / 4 * 4) bs
    (words four 4 (len % 8 / 4) (len / 8 * 8) bs
    (words eight 8 (len % 32 / 8) (len / 32 * 32) bs sum))

-- step 6
unfoldable pub avalanche : ℕ → ℕ
avalanche sum = folded (mul (folded (mul (folded sum 33) prime2) 29) prime3) 32

-- the checksum of bytes with a seed; step 4 adds the length
unfoldable pub xxh64 : List ℕ → ℕ → ℕ
xxh64 bs seed = avalanche (rest (length bs) bs (add (start (length bs / 32) bs seed) (length bs)))
