-- XOR of bytes: `xor_from` is the machine's XOR on numbers of that many digits; it is commutative,
-- associative, has 0 and undoes itself; and so for lists of bytes.
use mathlib.Core.Path.{◌≡◌, refl, sym, ap, ap₂, ◌∙◌}
use mathlib.Core.List.{List, [], ◌∷◌}
use mathlib.Core.Bool.{Bool, true, ◌&&◌}
use Prim.Native.Nat.{ℕ, zero, suc, ◌+◌, ◌*◌, ◌/◌, ◌%◌, ◌^◌, ◌<◌}
use native.Mathlib.Nat.{add_comm}
use native.Mathlib.Omega.{arith}
use lib.Arith.{lt-one}
use lib.Bits.{bit_xor, differ, xor_step}
use lib.Dec.{ltb}
use lib.ListN.{length, take, drop, replicate, get_or}
use borrow.Author.Tests.{ltb-true, lt-ltb}
use Rattle.mathematics.proofs.Flags.{and_l, and_r}
use Rattle.mathematics.specs.Xor.{xor_from, xor_l, all_bytes}

-- one digit
differ_add : (x y : ℕ) → x < 2 → y < 2 → differ x y ≡ (x + y) % 2
differ_add zero zero h k = refl
differ_add zero (suc zero) h k = refl
differ_add (suc zero) zero h k = refl
differ_add (suc zero) (suc zero) h k = refl
differ_add zero (suc (suc y)) h k = absurd (omega arith)
differ_add (suc zero) (suc (suc y)) h k = absurd (omega arith)
differ_add (suc (suc x)) y h k = absurd (omega arith)

-- the digit of a sum
digit_add : (a b : ℕ) → (a % 2 + b % 2) % 2 ≡ (a + b) % 2
digit_add a b = omega arith

-- n digits: the machine's XOR
pub xor_is : (n a b : ℕ) → a < 2 ^ n → b < 2 ^ n → bit_xor a b ≡ xor_from n a b
unfolding xor_from xor_l
xor_is zero a b h k = ap₂ bit_xor (lt-one h) (lt-one k)
xor_is (suc n) a b h k =
    xor_step a b
    ∙ ap₂ (λ (x y : ℕ). x * 2 + y) (xor_is n (a / 2) (b / 2) (omega arith) (omega arith)) (differ_add (a % 2) (b % 2) (omega arith) (omega arith) ∙ digit_add a b)
    ∙ omega arith

pub xor_byte : (a b : ℕ) → a < 256 → b < 256 → bit_xor a b ≡ xor_from 8 a b
unfolding xor_from xor_l
xor_byte a b h k = xor_is 8 a b h k

-- without the lowest digit
high : (n a b : ℕ) → xor_from (suc n) a b / 2 ≡ xor_from n (a / 2) (b / 2)
unfolding xor_from xor_l
high n a b = omega arith

pub xor_from_lt : (n a b : ℕ) → xor_from n a b < 2 ^ n
unfolding xor_from xor_l
xor_from_lt zero a b = omega arith
xor_from_lt (suc n) a b = omega (arith, xor_from_lt n (a / 2) (b / 2))

pub xor_from_comm : (n a b : ℕ) → xor_from n a b ≡ xor_from n b a
unfolding xor_from xor_l
xor_from_comm zero a b = refl
xor_from_comm (suc n) a b = ap₂ (λ (x y : ℕ). x % 2 + 2 * y) (add_comm a b) (xor_from_comm n (a / 2) (b / 2))

pub xor_from_assoc : (n a b c : ℕ) → xor_from n (xor_from n a b) c ≡ xor_from n a (xor_from n b c)
unfolding xor_from xor_l
xor_from_assoc zero a b c = refl
xor_from_assoc (suc n) a b c =
    ap₂ (λ (x y : ℕ). x + 2 * y)
    (omega arith)
    (ap (λ (x : ℕ). xor_from n x (c / 2)) (high n a b) ∙ xor_from_assoc n (a / 2) (b / 2) (c / 2) ∙ ap (λ (x : ℕ). xor_from n (a / 2) x) (sym (high n b c)))

pub xor_from_self : (n a : ℕ) → xor_from n a a ≡ 0
unfolding xor_from xor_l
xor_from_self zero a = refl
xor_from_self (suc n) a = omega (arith, xor_from_self n (a / 2))

pub xor_from_zero : (n a : ℕ) → a < 2 ^ n → xor_from n a 0 ≡ a
unfolding xor_from xor_l
xor_from_zero zero a h = omega arith
xor_from_zero (suc n) a h = omega (arith, xor_from_zero n (a / 2) (omega arith))

-- lists
pub xor_l_comm : (xs ys : List ℕ) → xor_l xs ys ≡ xor_l ys xs
unfolding xor_from xor_l
xor_l_comm [] [] = refl
xor_l_comm [] (y ∷ ys) = refl
xor_l_comm (x ∷ xs) [] = refl
xor_l_comm (x ∷ xs) (y ∷ ys) = ap₂ (λ (a : ℕ) (l : List ℕ). a ∷ l) (xor_from_comm 8 x y) (xor_l_comm xs ys)

pub xor_l_assoc : (xs ys zs : List ℕ) → xor_l (xor_l xs ys) zs ≡ xor_l xs (xor_l ys zs)
unfolding xor_from xor_l
xor_l_assoc [] ys zs = refl
xor_l_assoc (x ∷ xs) [] zs = refl
xor_l_assoc (x ∷ xs) (y ∷ ys) [] = refl
xor_l_assoc (x ∷ xs) (y ∷ ys) (z ∷ zs) = ap₂ (λ (a : ℕ) (l : List ℕ). a ∷ l) (xor_from_assoc 8 x y z) (xor_l_assoc xs ys zs)

pub xor_l_self : (xs : List ℕ) → xor_l xs xs ≡ replicate (length xs) 0
unfolding xor_from xor_l
xor_l_self [] = refl
xor_l_self (x ∷ xs) = ap₂ (λ (a : ℕ) (l : List ℕ). a ∷ l) (xor_from_self 8 x) (xor_l_self xs)

pub xor_l_zero : (xs : List ℕ) → all_bytes xs ≡ true → xor_l xs (replicate (length xs) 0) ≡ xs
unfolding xor_from xor_l
xor_l_zero [] h = refl
xor_l_zero (x ∷ xs) h = ap₂ (λ (a : ℕ) (l : List ℕ). a ∷ l) (xor_from_zero 8 x (ltb-true x 256 (and_l (ltb x 256) (all_bytes xs) h))) (xor_l_zero xs (and_r (ltb x 256) (all_bytes xs) h))

pub length_xor_l : (xs ys : List ℕ) → length xs ≡ length ys → length (xor_l xs ys) ≡ length xs
unfolding xor_from xor_l
length_xor_l [] ys e = refl
length_xor_l (x ∷ xs) [] e = absurd (omega arith)
length_xor_l (x ∷ xs) (y ∷ ys) e = ap suc (length_xor_l xs ys (omega arith))

-- xs ^ ys ^ ys is xs
pub xor_l_undo : (xs ys : List ℕ) → length xs ≡ length ys → all_bytes xs ≡ true → xor_l (xor_l xs ys) ys ≡ xs
unfolding xor_from xor_l
xor_l_undo xs ys e h =
    xor_l_assoc xs ys ys ∙ ap (xor_l xs) (xor_l_self ys ∙ ap (λ (n : ℕ). replicate n 0) (sym e)) ∙ xor_l_zero xs h

-- at an index
pub get_d_xor_l : (xs ys : List ℕ) (i : ℕ) → i < length xs → i < length ys → get_or (xor_l xs ys) i 0 ≡ xor_from 8 (get_or xs i 0) (get_or ys i 0)
unfolding xor_from xor_l
get_d_xor_l [] ys i h k = absurd (omega arith)
get_d_xor_l (x ∷ xs) [] i h k = absurd (omega arith)
get_d_xor_l (x ∷ xs) (y ∷ ys) zero h k = refl
get_d_xor_l (x ∷ xs) (y ∷ ys) (suc i) h k = get_d_xor_l xs ys i (omega arith) (omega arith)

-- zeros are the unit of lists of bytes, on the left too
pub zero_xor_l : (n : ℕ) (b : List ℕ) → length b ≡ n → all_bytes b ≡ true → xor_l (replicate n 0) b ≡ b
zero_xor_l n b e h = xor_l_comm (replicate n 0) b ∙ ap (λ (k : ℕ). xor_l b (replicate k 0)) (sym e) ∙ xor_l_zero b h

-- two lists of bytes whose XOR is zero are equal
pub zero_equal : (n : ℕ) (a b : List ℕ) → length a ≡ n → length b ≡ n → all_bytes a ≡ true → all_bytes b ≡ true → xor_l a b ≡ replicate n 0 → a ≡ b
zero_equal n a b ea eb ha hb z =
    let l : length a ≡ length b = omega arith in
    sym (xor_l_undo a b l ha) ∙ ap (λ (x : List ℕ). xor_l x b) z ∙ zero_xor_l n b eb hb

-- what XOR gives are bytes
pub xor_l_bytes : (a b : List ℕ) → all_bytes (xor_l a b) ≡ true
unfolding xor_l
xor_l_bytes [] b = refl
xor_l_bytes (x ∷ a) [] = refl
xor_l_bytes (x ∷ a) (y ∷ b) = ap₂ (λ (p q : Bool). p && q) (lt-ltb (xor_from 8 x y) 256 (xor_from_lt 8 x y)) (xor_l_bytes a b)

pub zeros_bytes : (n : ℕ) → all_bytes (replicate n 0) ≡ true
zeros_bytes zero = refl
zeros_bytes (suc n) = zeros_bytes n

-- three in a row: the first two may be exchanged
pub xor_l_swap : (a b c : List ℕ) → xor_l a (xor_l b c) ≡ xor_l b (xor_l a c)
xor_l_swap a b c = sym (xor_l_assoc a b c) ∙ ap (λ (l : List ℕ). xor_l l c) (xor_l_comm a b) ∙ xor_l_assoc b a c

-- zeros on the right
pub xor_l_zeros : (n : ℕ) (a : List ℕ) → length a ≡ n → all_bytes a ≡ true → xor_l a (replicate n 0) ≡ a
xor_l_zeros n a e h = xor_l_comm a (replicate n 0) ∙ zero_xor_l n a e h

-- a ^ a ^ b is b
pub xor_l_twice : (n : ℕ) (a b : List ℕ) → length a ≡ n → length b ≡ n → all_bytes b ≡ true → xor_l a (xor_l a b) ≡ b
xor_l_twice n a b ea eb hb = sym (xor_l_assoc a a b) ∙ ap (λ (c : List ℕ). xor_l c b) (xor_l_self a ∙ ap (λ (k : ℕ). replicate k 0) ea) ∙ zero_xor_l n b eb hb

pub xor_l_long : (n : ℕ) (a b : List ℕ) → length a ≡ n → length b ≡ n → length (xor_l a b) ≡ n
xor_l_long n a b ea eb = length_xor_l a b (ea ∙ sym eb) ∙ ea

-- (a ^ b) ^ (c ^ d) is (a ^ c) ^ (b ^ d)
pub xor_l_cross : (a b c d : List ℕ) → xor_l (xor_l a b) (xor_l c d) ≡ xor_l (xor_l a c) (xor_l b d)
xor_l_cross a b c d = xor_l_assoc a b (xor_l c d) ∙ ap (xor_l a) (xor_l_swap b c d) ∙ sym (xor_l_assoc a c (xor_l b d))

-- the first n bytes of the XOR, and those after them
pub take_xor_l : (n : ℕ) (t u : List ℕ) → take n (xor_l t u) ≡ xor_l (take n t) (take n u)
unfolding xor_l
take_xor_l zero t u = refl
take_xor_l (suc n) [] u = refl
take_xor_l (suc n) (x ∷ t) [] = refl
take_xor_l (suc n) (x ∷ t) (y ∷ u) = ap (λ (l : List ℕ). xor_from 8 x y ∷ l) (take_xor_l n t u)

pub drop_xor_l : (n : ℕ) (t u : List ℕ) → drop n (xor_l t u) ≡ xor_l (drop n t) (drop n u)
unfolding xor_l
drop_xor_l zero t u = refl
drop_xor_l (suc n) [] u = refl
drop_xor_l (suc n) (x ∷ t) [] = xor_l_comm [] (drop n t)
drop_xor_l (suc n) (x ∷ t) (y ∷ u) = drop_xor_l n t u
