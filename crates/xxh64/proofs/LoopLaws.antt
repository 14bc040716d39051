-- The loop over stripes, from the count that is left: none, or one more turn. And how the sum starts.
use mathlib.Core.Path.{◌≡◌, refl, ap}
use mathlib.Core.List.{List}
use Prim.Native.Nat.{ℕ, zero, suc, ◌+◌, ◌-◌, ◌*◌, ◌^◌, ◌≤◌, ◌<◌}
use native.Mathlib.Omega.{arith}
use Rattle.xxh64.specs.Checksum.{prime1, prime2, prime5, add, word, round, converge, stripes, start, words}

pub stripes_none : (n i : ℕ) (bs : List ℕ) (a b c d : ℕ) → n ≤ 0 → stripes n i bs a b c d ≡ converge a b c d
unfolding stripes
stripes_none zero i bs a b c d h = refl
stripes_none (suc n) i bs a b c d h = absurd (omega arith)

pub stripes_more : (n i : ℕ) (bs : List ℕ) (a b c d : ℕ) → 0 < n → stripes n i bs a b c d ≡ stripes (n - 1) (i + 32) bs (round a (word 8 i bs)) (round b (word 8 (i + 8) bs)) (round c (word 8 (i + 16) bs)) (round d (word 8 (i + 24) bs))
unfolding stripes
stripes_more zero i bs a b c d h = absurd (omega arith)
stripes_more (suc n) i bs a b c d h =
    let e : n ≡ suc n - 1 = omega arith in
    ap (λ (k : ℕ). stripes k (i + 32) bs (round a (word 8 i bs)) (round b (word 8 (i + 8) bs)) (round c (word 8 (i + 16) bs)) (round d (word 8 (i + 24) bs))) e

pub start_none : (n : ℕ) (bs : List ℕ) (seed : ℕ) → n ≤ 0 → start n bs seed ≡ add seed prime5
unfolding start
start_none zero bs seed h = refl
start_none (suc n) bs seed h = absurd (omega arith)

pub start_more : (n : ℕ) (bs : List ℕ) (seed : ℕ) → 0 < n → start n bs seed ≡ stripes n 0 bs (add (add seed prime1) prime2) (add seed prime2) seed (add seed (2 ^ 64 - prime1))
unfolding start
start_more zero bs seed h = absurd (omega arith)
start_more (suc n) bs seed h = refl

-- one stripe more of n, after k: its lanes are the words from place 32 × k on
pub stripes_step :
    (n k : ℕ) (bs stripe : List ℕ) (a b c d a' b' c' d' : ℕ) → k < n
    → ((j : ℕ) → j + 8 ≤ 32 → word 8 j stripe ≡ word 8 (k * 32 + j) bs)
    → a' ≡ round a (word 8 0 stripe) → b' ≡ round b (word 8 8 stripe) → c' ≡ round c (word 8 16 stripe) → d' ≡ round d (word 8 24 stripe)
    → stripes (n - (k + 1)) ((k + 1) * 32) bs a' b' c' d' ≡ stripes (n - k) (k * 32) bs a b c d
stripes_step n k bs stripe a b c d a' b' c' d' h lane ea eb ec ed =
    let left : n - k - 1 ≡ n - (k + 1) = omega arith in
    let at : k * 32 + 32 ≡ (k + 1) * 32 = omega arith in
    let first : k * 32 + 0 ≡ k * 32 = omega arith in
    cc (stripes_more (n - k) (k * 32) bs a b c d (omega arith), lane 0 (omega arith), lane 8 (omega arith), lane 16 (omega arith), lane 24 (omega arith))

pub words_none : (mixed : ℕ → ℕ → ℕ) (size n i : ℕ) (bs : List ℕ) (sum : ℕ) → n ≤ 0 → words mixed size n i bs sum ≡ sum
unfolding words
words_none mixed size zero i bs sum h = refl
words_none mixed size (suc n) i bs sum h = absurd (omega arith)

pub words_more : (mixed : ℕ → ℕ → ℕ) (size n i : ℕ) (bs : List ℕ) (sum : ℕ) → 0 < n → words mixed size n i bs sum ≡ words mixed size (n - 1) (i + size) bs (mixed sum (word size i bs))
unfolding words
words_more mixed size zero i bs sum h = absurd (omega arith)
words_more mixed size (suc n) i bs sum h =
    let e : n ≡ suc n - 1 = omega arith in
    ap (λ (k : ℕ). words mixed size k (i + size) bs (mixed sum (word size i bs))) e
