-- Each file's quotient rounded up is the least number of stripes that holds it, since the remainder
-- is below the divisor. Added, they are at least the stripes of the whole length and hold at most
-- one stripe less a byte more than it for each file that is not empty.
use mathlib.Core.Path.{◌≡◌, refl, sym, ap, ap₂, ◌∙◌}
use mathlib.Core.List.{List, [], ◌∷◌}
use mathlib.Core.Logic.{⊎_elim}
use Prim.Native.Nat.{ℕ, zero, suc, ◌+◌, ◌-◌, ◌*◌, ◌/◌, ◌%◌, ◌^◌, ◌≤◌, ◌<◌, min}
use native.Mathlib.Nat.{mul-le-mul, mul-le-mul_left, mul-le-mul_right, mod-lt, div-add-mod', div-mul-le_self, div-eq_of_lt, div-lt_iff_lt-mul, add-mul, le_antisymm}
use native.Mathlib.Omega.{arith}
use Rattle.std.specs.Int.{div_ceil}
use Rattle.std.specs.List.{sum_by}
use Rattle.std.proofs.lemmas.Grind.{div_ceil_times}
use Rattle.std.proofs.lemmas.List.Sums.{sum_by-cons}
use lib.ListN.{length, get_or}
use lib.Seq.{ext_get_or}
use Rattle.mathematics.specs.Sums.{total}
use Rattle.mathematics.proofs.OrderLaws.{lt_or_le}
use Rattle.space.specs.Says.{up_by, up_each, nonempty, FewFiles, Placed, Each}

-- q times d are less than d above a, so one time fewer is below a
one_fewer : (q a d : ℕ) → 0 < d → 0 < a → q * d ≤ a + (d - 1) → (q - 1) * d < a
one_fewer zero a d h k m = omega arith
one_fewer (suc q) a d h k m = let e : suc q - 1 ≡ q = omega arith in rw e (omega arith)

up_below : (a d : ℕ) → up_by a d * d ≤ a + (d - 1)
up_below a d = div-mul-le_self (a + (d - 1)) d

-- the stripes of one file
module _ (d : ℕ) (h : 0 < d) where
  up_enough : (a : ℕ) → a ≤ up_by a d * d
  up_enough a = omega (arith, div-add-mod' (a + (d - 1)) d, mod-lt (a + (d - 1)) h)

  up_none : (a : ℕ) → a ≡ 0 → up_by a d ≡ 0
  up_none a e = div-eq_of_lt (omega arith)

  up_placed : (a : ℕ) → Placed d a (up_by a d)
  up_placed a = record { enough = up_enough a; fewest = λ k. one_fewer (up_by a d) a d h k (up_below a d); none = up_none a }

  -- stripes that hold all are at least the quotient
  up_least : (a n : ℕ) → a ≤ n * d → up_by a d ≤ n
  up_least a n k = let t : up_by a d < suc n = (div-lt_iff_lt-mul h).1 (omega arith) in omega arith

  -- and no other number of stripes is such
  placed_is : (l n : ℕ) → Placed d l n → up_by l d ≡ n
  placed_is zero n a = up_none 0 refl ∙ sym (a.none refl)
  placed_is (suc l) n a = le_antisymm (up_least (suc l) n a.enough) (⊎_elim (λ g. absurd (fewer g)) (λ g. g) (lt_or_le (up_by (suc l) d) n))
    where
      fewer : up_by (suc l) d < n → ⊥
      fewer g = let k : up_by (suc l) d * d ≤ (n - 1) * d = mul-le-mul_right d (omega arith) in omega (arith, a.fewest (omega arith), up_enough (suc l))

-- the quotient as `div_ceil` reckons it
pub ceil_is : (a d : ℕ) → 0 < d → a / d + min 1 (a % d) ≡ up_by a d
ceil_is a d h =
    let t = div_ceil_times a d h in
    let n = a / d + min 1 (a % d) in
    sym (placed_is d h a n (record { enough = t.0; fewest = λ k. one_fewer n a d h k (omega (arith, t.1)); none = λ e. rw e (grind arith) }))

-- the stripes of each file
each_long : (d : ℕ) (ls : List ℕ) → length (up_each d ls) ≡ length ls
unfolding up_each
each_long d [] = refl
each_long d (l ∷ ls) = ap suc (each_long d ls)

each_at : (d : ℕ) (ls : List ℕ) (i : ℕ) → i < length ls → get_or (up_each d ls) i 0 ≡ up_by (get_or ls i 0) d
unfolding up_each
each_at d [] i h = absurd (omega arith)
each_at d (l ∷ ls) zero h = refl
each_at d (l ∷ ls) (suc i) h = each_at d ls i (omega arith)

module _ (d : ℕ) (h : 0 < d) (ls : List ℕ) where
  pub each_is : Each d ls (up_each d ls)
  each_is = record { files = each_long d ls; placed = λ i l. rw (each_at d ls i l) (up_placed d h (get_or ls i 0)) }

  pub each_once : (ns : List ℕ) → Each d ls ns → up_each d ls ≡ ns
  each_once ns e =
      ext_get_or 0 (up_each d ls) ns (each_long d ls ∙ sym e.files) (λ i l. let m : i < length ls = rw (each_long d ls) at l in each_at d ls i m ∙ placed_is d h (get_or ls i 0) (get_or ns i 0) (e.placed i m))

-- all stripes together: at least those of the whole length, and for each file that is not empty
-- less than one stripe more
module _ (d : ℕ) (h : 0 < d) where
  whole : (ls : List ℕ) → total ls ≤ total (up_each d ls) * d
  unfolding total up_each
  whole [] = omega arith
  whole (l ∷ ls) = omega (arith, whole ls, up_enough d h l)

  pub files_least : (ls : List ℕ) → up_by (total ls) d ≤ total (up_each d ls)
  files_least ls = up_least d h (total ls) (total (up_each d ls)) (whole ls)

  pub files_most : (ls : List ℕ) → total (up_each d ls) * d ≤ total ls + nonempty ls * (d - 1)
  unfolding total up_each nonempty
  files_most [] = omega arith
  files_most (zero ∷ ls) = let e : up_by 0 d + total (up_each d ls) ≡ total (up_each d ls) = omega (arith, up_none d h 0 refl) in rw e (omega (arith, files_most ls))
  files_most (suc l ∷ ls) = omega (arith, files_most ls, up_below (suc l) d, add-mul (up_by (suc l) d) (total (up_each d ls)) d)

nonempty_few : (ls : List ℕ) → nonempty ls ≤ length ls
unfolding nonempty
nonempty_few [] = omega arith
nonempty_few (zero ∷ ls) = omega (arith, nonempty_few ls)
nonempty_few (suc l ∷ ls) = omega (arith, nonempty_few ls)

-- few files: their stripes hold less than 2^49 bytes
pub files_small : (d : ℕ) (ls : List ℕ) → FewFiles d ls → total (up_each d ls) * d < 2 ^ 49
files_small d ls f =
    let n : nonempty ls ≤ 4096 = omega (arith, nonempty_few ls, f.files) in
    let e : d - 1 ≤ 31490047 = omega (arith, f.holds) in
    let m : nonempty ls * (d - 1) ≤ 4096 * 31490047 = mul-le-mul n e in
    omega (arith, f.bytes, files_most d f.pos ls)

-- so they are fewer than 2^49 too
pub stripes_small : (d : ℕ) (ls : List ℕ) → FewFiles d ls → total (up_each d ls) < 2 ^ 49
stripes_small d ls f = omega (arith, files_small d ls f, mul-le-mul_left (total (up_each d ls)) f.pos)

-- the sum as the code takes it
pub each_sum : (d : ℕ) → 0 < d → (ls : List ℕ) → sum_by (λ l. div_ceil l d) ls ≡ total (up_each d ls)
unfolding total up_each
each_sum d h [] = refl
each_sum d h (l ∷ ls) = sum_by-cons (λ (x : ℕ). div_ceil x d) l ls ∙ ap₂ ◌+◌ (ceil_is l d h) (each_sum d h ls)

-- does not wrap
pub sum_small : (d : ℕ) (ls : List ℕ) → FewFiles d ls → sum_by (λ l. div_ceil l d) ls < 2 ^ 64
sum_small d ls f = omega (arith, each_sum d f.pos ls, stripes_small d ls f)

-- nor do the bytes of a disk for them, which gives g of the d bytes of a stripe
pub need_small : (d g : ℕ) (ls : List ℕ) → g ≤ d → FewFiles d ls → total (up_each d ls) * g < 2 ^ 64
need_small d g ls h f =
    let m : total (up_each d ls) * g ≤ total (up_each d ls) * d = mul-le-mul_left (total (up_each d ls)) h in
    omega (arith, m, files_small d ls f)
