-- Words read from bytes: chunks of a list are its words one after the other.
use mathlib.Core.Path.{◌≡◌, refl, sym, ap, ap₂, ◌∙◌}
use mathlib.Core.List.{List, [], ◌∷◌, ◌++◌}
use Prim.Native.Nat.{ℕ, zero, suc, ◌+◌, ◌-◌, ◌*◌, ◌/◌, ◌%◌, ◌≤◌, ◌<◌, ◌^◌}
use native.Mathlib.Omega.{arith}
use lib.ListN.{length, take, drop, get_or, length-drop, drop_of_length-le}
use lib.Seq.{drop-cons, drop-drop, take-take, length-take-le, take-add}
use mir.Syntax.{w32, w64}
use Rattle.std.proofs.lemmas.List.{drop-take}
use Rattle.std.specs.List.{fold}
use Rattle.std.specs.Int.{from_le_bytes}
use Rattle.std.specs.Simd.{first_chunks}
use Rattle.xxh64.specs.Checksum.{number, word, words, eight, four, one, rest}
use native.Mathlib.Nat.{mul_assoc, pow-suc}

-- the number of the bytes from place i on, from its lowest byte
number_at : (bs : List ℕ) (i : ℕ) → i < length bs → number (drop i bs) ≡ get_or bs i 0 + 256 * number (drop (suc i) bs)
unfolding number
number_at bs i h = ap number (drop-cons bs i 0 h)

number_end : (bs : List ℕ) (i : ℕ) → length bs ≤ i → number (drop i bs) ≡ 0
unfolding number
number_end [] zero h = refl
number_end [] (suc i) h = refl
number_end (b ∷ bs) zero h = absurd (omega arith)
number_end (b ∷ bs) (suc i) h = number_end bs i (omega arith)

-- four and eight bytes as a number
pub number_four : (bs : List ℕ) → length bs ≡ 4 → from_le_bytes w32 bs ≡ number bs
number_four bs h =
    omega (arith, number_at bs 0 (omega arith), number_at bs 1 (omega arith), number_at bs 2 (omega arith), number_at bs 3 (omega arith), number_end bs 4 (omega arith))

pub number_eight : (bs : List ℕ) → length bs ≡ 8 → from_le_bytes w64 bs ≡ number bs
number_eight bs h =
    omega (arith, number_at bs 0 (omega arith), number_at bs 1 (omega arith), number_at bs 2 (omega arith), number_at bs 3 (omega arith), number_at bs 4 (omega arith), number_at bs 5 (omega arith), number_at bs 6 (omega arith), number_at bs 7 (omega arith), number_end bs 8 (omega arith))

-- chunk i of n bytes
pub chunk_at : {X : Type 0} (n k i : ℕ) (xs : List X) (d : List X) → i < k → get_or (first_chunks n k xs) i d ≡ take n (drop (i * n) xs)
chunk_at n zero i xs d h = absurd (omega arith)
chunk_at n (suc k) zero xs d h = let e : 0 ≡ 0 * n = omega arith in ap (λ (j : ℕ). take n (drop j xs)) e
chunk_at n (suc k) (suc i) xs d h =
    let e : n + i * n ≡ suc i * n = omega arith in
    chunk_at n k i (drop n xs) d (omega arith) ∙ ap (take n) (drop-drop (i * n) n xs ∙ ap (λ (j : ℕ). drop j xs) e)

-- a word of a stripe of m bytes that begins at place i
pub word_within : (n j m i : ℕ) (bs : List ℕ) → j + n ≤ m → word n j (take m (drop i bs)) ≡ word n (i + j) bs
unfolding word
word_within n j m i bs h =
    let r = m - j in
    let e : m ≡ j + r = omega arith in
    ap (λ (k : ℕ). number (take n (drop j (take k (drop i bs))))) e
    ∙ ap (λ (xs : List ℕ). number (take n xs)) (drop-take j r (drop i bs))
    ∙ ap number (take-take n r (drop j (drop i bs)) (omega arith))
    ∙ ap (λ (xs : List ℕ). number (take n xs)) (drop-drop j i bs)

-- lane k of eight bytes, read as a number
pub lane_is : (lanes : List (List ℕ)) (bs : List ℕ) (n k : ℕ) → lanes ≡ first_chunks 8 n bs → k < n → k * 8 + 8 ≤ length bs → from_le_bytes w64 (get_or lanes k []) ≡ word 8 (k * 8) bs
unfolding word
lane_is lanes bs n k e b h =
    let f : get_or lanes k [] ≡ take 8 (drop (k * 8) bs) = ap (λ (v : List (List ℕ)). get_or v k []) e ∙ chunk_at 8 n k bs [] b in
    number_eight (get_or lanes k []) (ap length f ∙ length-take-le 8 (drop (k * 8) bs) (omega (arith, length-drop (k * 8) bs))) ∙ ap number f

-- words one after the other are chunks
pub words_chunks : (mixed : ℕ → ℕ → ℕ) (size n i : ℕ) (bs : List ℕ) (sum : ℕ) → words mixed size n i bs sum ≡ fold (λ (s : ℕ) (c : List ℕ). mixed s (number c)) sum (first_chunks size n (drop i bs))
unfolding words word
words_chunks mixed size zero i bs sum = refl
words_chunks mixed size (suc n) i bs sum =
    words_chunks mixed size n (i + size) bs (mixed sum (word size i bs))
    ∙ ap (λ (xs : List ℕ). fold (λ (s : ℕ) (c : List ℕ). mixed s (number c)) (mixed sum (number (take size (drop i bs)))) (first_chunks size n xs)) (sym (drop-drop size i bs))

-- and words of one byte are the bytes
word_one : (i : ℕ) (bs : List ℕ) → i < length bs → word 1 i bs ≡ get_or bs i 0
unfolding word number
word_one i bs h = ap (λ (x : List ℕ). number (take 1 x)) (drop-cons bs i 0 h) ∙ omega arith

pub words_bytes : (mixed : ℕ → ℕ → ℕ) (n i : ℕ) (bs : List ℕ) (sum : ℕ) → i + n ≡ length bs → words mixed 1 n i bs sum ≡ fold mixed sum (drop i bs)
unfolding words
words_bytes mixed zero i bs sum h = ap (fold mixed sum) (sym (drop_of_length-le bs {i = i} (omega arith)))
words_bytes mixed (suc n) i bs sum h =
    let next : i + 1 ≡ suc i = omega arith in
    words_bytes mixed n (i + 1) bs (mixed sum (word 1 i bs)) (omega arith)
    ∙ ap₂ (λ (x j : ℕ). fold mixed (mixed sum x) (drop j bs)) (word_one i bs (omega arith)) next
    ∙ ap (fold mixed sum) (sym (drop-cons bs i 0 (omega arith)))

-- a word of stripe k of m bytes
pub chunk_word : (n j m q k : ℕ) (bs : List ℕ) (chunks : List (List ℕ)) → chunks ≡ first_chunks m q bs → k < q → j + n ≤ m → word n j (get_or chunks k []) ≡ word n (k * m + j) bs
chunk_word n j m q k bs chunks e b h =
    ap (λ (v : List (List ℕ)). word n j (get_or v k [])) e ∙ ap (word n j) (chunk_at m q k bs [] b) ∙ word_within n j m (k * m) bs h

-- the tail after the stripes, by eights, what is left by a four, and what is left of it by ones
pub rest_is :
    (bs : List ℕ) (begun : ℕ) (t u v : List ℕ) (eights fours : List (List ℕ)) (a b c : ℕ)
    → t ≡ drop (length bs / 32 * 32) bs → length t ≡ length bs % 32
    → u ≡ drop (length t / 8 * 8) t → length u ≡ length t % 8
    → v ≡ drop (length u / 4 * 4) u
    → eights ≡ first_chunks 8 (length t / 8) t → fours ≡ first_chunks 4 (length u / 4) u
    → a ≡ fold (λ (s : ℕ) (x : List ℕ). eight s (number x)) begun eights
    → b ≡ fold (λ (s : ℕ) (x : List ℕ). four s (number x)) a fours
    → c ≡ fold one b v
    → c ≡ rest (length bs) bs begun
unfolding rest
rest_is bs begun t u v eights fours a b c et lt eu lu ev ee ef ea eb ec =
    let n = length bs in
    let lu' : length u ≡ n % 8 = omega arith in
    let u_is : u ≡ drop (n / 8 * 8) bs =
    eu ∙ ap (drop (length t / 8 * 8)) et ∙ drop-drop (length t / 8 * 8) (n / 32 * 32) bs ∙ ap (λ (i : ℕ). drop i bs) (omega arith) in
    let v_is : v ≡ drop (n / 4 * 4) bs =
    ev ∙ ap (drop (length u / 4 * 4)) u_is ∙ drop-drop (length u / 4 * 4) (n / 8 * 8) bs ∙ ap (λ (i : ℕ). drop i bs) (omega arith) in
    let e8 : words eight 8 (n % 32 / 8) (n / 32 * 32) bs begun ≡ a =
    words_chunks eight 8 (n % 32 / 8) (n / 32 * 32) bs begun
    ∙ ap₂ (λ (q : ℕ) (xs : List ℕ). fold (λ (s : ℕ) (x : List ℕ). eight s (number x)) begun (first_chunks 8 q xs)) (ap (λ (q : ℕ). q / 8) (sym lt)) (sym et)
    ∙ ap (fold (λ (s : ℕ) (x : List ℕ). eight s (number x)) begun) (sym ee)
    ∙ sym ea in
    let e4 : words four 4 (n % 8 / 4) (n / 8 * 8) bs a ≡ b =
    words_chunks four 4 (n % 8 / 4) (n / 8 * 8) bs a
    ∙ ap₂ (λ (q : ℕ) (xs : List ℕ). fold (λ (s : ℕ) (x : List ℕ). four s (number x)) a (first_chunks 4 q xs)) (ap (λ (q : ℕ). q / 4) (sym lu')) (sym u_is)
    ∙ ap (fold (λ (s : ℕ) (x : List ℕ). four s (number x)) a) (sym ef)
    ∙ sym eb in
    let e1 : words one 1 (n % 4) (n / 4 * 4) bs b ≡ c =
    words_bytes one (n % 4) (n / 4 * 4) bs b (omega arith) ∙ ap (fold one b) (sym v_is) ∙ sym ec in
    sym e1 ∙ ap (words one 1 (n % 4) (n / 4 * 4) bs) (sym e4) ∙ ap (λ (s : ℕ). words one 1 (n % 4) (n / 4 * 4) bs (words four 4 (n % 8 / 4) (n / 8 * 8) bs s)) (sym e8)

-- the number of two lists, one after the other
number_append : (xs ys : List ℕ) → number (xs ++ ys) ≡ number ys * 256 ^ length xs + number xs
unfolding number
number_append [] ys = omega arith
number_append (x ∷ xs) ys =
    let e : 256 ^ length (x ∷ xs) ≡ 256 ^ length xs * 256 = pow-suc 256 (length xs) in
    let m : number ys * 256 ^ length (x ∷ xs) ≡ number ys * 256 ^ length xs * 256 = ap (λ (n : ℕ). number ys * n) e ∙ sym (mul_assoc (number ys) (256 ^ length xs) 256) in
    omega (arith, number_append xs ys)

-- a word of n bytes, and one of m after it
pub word_add : (n m i : ℕ) (bs : List ℕ) → i + n ≤ length bs → word (n + m) i bs ≡ word m (i + n) bs * 256 ^ n + word n i bs
unfolding word
word_add n m i bs h =
    let l : length (take n (drop i bs)) ≡ n = length-take-le n (drop i bs) (simp length-drop (omega arith)) in
    ap number (take-add n m (drop i bs))
    ∙ number_append (take n (drop i bs)) (take m (drop n (drop i bs)))
    ∙ ap (λ (k : ℕ). number (take m (drop n (drop i bs))) * 256 ^ k + number (take n (drop i bs))) l
    ∙ ap (λ (x : List ℕ). number (take m x) * 256 ^ n + number (take n (drop i bs))) (drop-drop n i bs)
