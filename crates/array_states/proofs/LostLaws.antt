-- Lost disks as the bits of a word: a report on disk d changes bit d alone, the ones of the word
-- are the lost disks, and a word with a bit past Q is one with a lost disk over k + 1.
use mathlib.Core.Path.{◌≡◌, refl, sym, ap, ap₂, ◌∙◌, subst}
use mathlib.Core.Bool.{Bool, true, false, not, ◌||◌}
use mathlib.Core.Logic.{⊎_elim}
use Prim.Native.Nat.{ℕ, zero, suc, ◌+◌, ◌-◌, ◌*◌, ◌/◌, ◌%◌, ◌^◌, ◌<◌, ◌≤◌}
use native.Mathlib.Nat.{mod-lt, lt_of_lt_of_le, lt_irrefl, le_trans, le_of_eq, le-div_iff_mul-le, div-eq_of_lt, div-one, one-mul}
use native.Mathlib.Numerals.{one-add}
use native.Mathlib.Omega.{arith}
use lib.Bits.{bit_and, bit_or, bit_xor, and_shr, and_mod, or_shr, or_mod, or_lt, xor_shr, xor_mod, xor_lt, and_lt, and_zero_r, or_zero_r, xor_zero_r}
use lib.Count.{ones, ones_step, leading_top}
use lib.Dec.{eqb}
use lib.Pow.{pow_pos, pow-lt, pow_mono, pow-add, shl-shr, shr-shr, shr_lt}
use borrow.Author.Tests.{eqb-true, eqb-false, lt-leb}
use Rattle.mathematics.specs.Choice.{pick, when}
use Rattle.mathematics.specs.Sums.{sum_to}
use Rattle.mathematics.proofs.Flags.{flag}
use Rattle.mathematics.proofs.OrderLaws.{lt_or_le, lt_or_gt}
use Rattle.mathematics.proofs.SumLaws.{sum_zero, sum_first, sum_ext, sum_more}
use Rattle.array_states.specs.Lost.{has_bit, with_lost, with_back, lost_after, lost_refusal}

-- ---- digits
-- digit d of a word
abbrev digit : ℕ → ℕ → ℕ
digit w d = w / 2 ^ d % 2

-- of each operation it is the operation on the digits
or_digit : (a b d : ℕ) → digit (bit_or a b) d ≡ bit_or (digit a d) (digit b d)
or_digit a b d = ap (λ (x : ℕ). x % 2) (or_shr a b d) ∙ or_mod (a / 2 ^ d) (b / 2 ^ d) 1

and_digit : (a b d : ℕ) → digit (bit_and a b) d ≡ bit_and (digit a d) (digit b d)
and_digit a b d = ap (λ (x : ℕ). x % 2) (and_shr a b d) ∙ and_mod (a / 2 ^ d) (b / 2 ^ d) 1

xor_digit : (a b d : ℕ) → digit (bit_xor a b) d ≡ bit_xor (digit a d) (digit b d)
xor_digit a b d = ap (λ (x : ℕ). x % 2) (xor_shr a b d) ∙ xor_mod (a / 2 ^ d) (b / 2 ^ d) 1

-- a word below 2 ^ n has no digit from n on
none_past : (w n d : ℕ) → w < 2 ^ n → n ≤ d → digit w d ≡ 0
none_past w n d h l = ap (λ (x : ℕ). x % 2) (div-eq_of_lt (lt_of_lt_of_le h (pow_mono l)))

-- bit d alone has digit d and no other
bit_own : (d : ℕ) → digit (2 ^ d) d ≡ 1
bit_own d = ap (λ (x : ℕ). x / 2 ^ d % 2) (sym (one-mul (2 ^ d))) ∙ ap (λ (x : ℕ). x % 2) (shl-shr 1 d)

bit_above : (d e : ℕ) → e < d → digit (2 ^ d) e ≡ 0
bit_above d e h =
    let j : ℕ = d - e - 1 in
    let s : d ≡ suc j + e = omega arith in
    let p : 2 ^ d ≡ 2 ^ suc j * 2 ^ e = ap (λ (x : ℕ). 2 ^ x) s ∙ pow-add 2 (suc j) e in
    let even : 2 ^ suc j % 2 ≡ 0 = omega arith in
    ap (λ (x : ℕ). x / 2 ^ e % 2) p ∙ ap (λ (x : ℕ). x % 2) (shl-shr (2 ^ suc j) e) ∙ even

bit_other : (d e : ℕ) → (e ≡ d → ⊥) → digit (2 ^ d) e ≡ 0
bit_other d e n = ⊎_elim (λ l. bit_above d e l) (λ g. none_past (2 ^ d) (suc d) e (pow-lt (omega arith)) g) (lt_or_gt e d n)

digit_lt : (w d : ℕ) → digit w d < 2
digit_lt w d = mod-lt (w / 2 ^ d) (omega arith)

-- ---- a report on disk d
set_one : (x : ℕ) → x < 2 → bit_or x 1 ≡ 1
set_one zero h = refl
set_one (suc zero) h = refl
set_one (suc (suc x)) h = absurd (omega arith)

clear_one : (x : ℕ) → x < 2 → bit_xor x (bit_and x 1) ≡ 0
clear_one zero h = refl
clear_one (suc zero) h = refl
clear_one (suc (suc x)) h = absurd (omega arith)

-- its digit is 1 after a loss, and 0 after a return
lost_own : (w d : ℕ) → digit (with_lost w d) d ≡ 1
lost_own w d = or_digit w (2 ^ d) d ∙ ap (bit_or (digit w d)) (bit_own d) ∙ set_one (digit w d) (digit_lt w d)

back_own : (w d : ℕ) → digit (with_back w d) d ≡ 0
back_own w d =
    xor_digit w (bit_and w (2 ^ d)) d ∙ ap (bit_xor (digit w d)) (and_digit w (2 ^ d) d ∙ ap (bit_and (digit w d)) (bit_own d))
    ∙ clear_one (digit w d) (digit_lt w d)

-- every other digit stands
lost_other : (w d e : ℕ) → (e ≡ d → ⊥) → digit (with_lost w d) e ≡ digit w e
lost_other w d e n = or_digit w (2 ^ d) e ∙ ap (bit_or (digit w e)) (bit_other d e n) ∙ or_zero_r (digit w e)

back_other : (w d e : ℕ) → (e ≡ d → ⊥) → digit (with_back w d) e ≡ digit w e
back_other w d e n =
    xor_digit w (bit_and w (2 ^ d)) e ∙ ap (bit_xor (digit w e)) (and_digit w (2 ^ d) e ∙ ap (bit_and (digit w e)) (bit_other d e n) ∙ and_zero_r (digit w e))
    ∙ xor_zero_r (digit w e)

pub own_after : (w d : ℕ) (back : Bool) → has_bit (lost_after w d back) d ≡ not back
own_after w d true = ap (λ (x : ℕ). eqb x 1) (back_own w d)
own_after w d false = ap (λ (x : ℕ). eqb x 1) (lost_own w d)

pub other_after : (w d e : ℕ) (back : Bool) → (e ≡ d → ⊥) → has_bit (lost_after w d back) e ≡ has_bit w e
other_after w d e true n = ap (λ (x : ℕ). eqb x 1) (back_other w d e n)
other_after w d e false n = ap (λ (x : ℕ). eqb x 1) (lost_other w d e n)

-- a disk is lost after a report exactly if that was its loss, or it was lost and the report was of
-- another disk
pub lost_after_lem : (w d e : ℕ) (back : Bool) → has_bit (lost_after w d back) e ≡ pick (eqb e d) (not back) (has_bit w e)
lost_after_lem w d e back =
    ⊎_elim
    (λ t. ap (λ (x : ℕ). has_bit (lost_after w d back) x) (eqb-true e d t) ∙ own_after w d back ∙ sym (ap (λ (b : Bool). pick b (not back) (has_bit w e)) t))
    (λ f. other_after w d e back (eqb-false e d f) ∙ sym (ap (λ (b : Bool). pick b (not back) (has_bit w e)) f))
    (flag (eqb e d))

-- a word of n bits is one after a report on one of them
pub after_lt : (n w d : ℕ) (back : Bool) → w < 2 ^ n → d < n → lost_after w d back < 2 ^ n
after_lt n w d true h l = xor_lt n w (bit_and w (2 ^ d)) h (and_lt n w (2 ^ d) h (pow-lt l))
after_lt n w d false h l = or_lt n w (2 ^ d) h (pow-lt l)

-- ---- the ones of a word
digit_when : (x : ℕ) → x < 2 → x ≡ when (eqb x 1) 1
digit_when zero h = refl
digit_when (suc zero) h = refl
digit_when (suc (suc x)) h = absurd (omega arith)

-- they are as many as disks are lost
pub ones_lost : (n w : ℕ) → w < 2 ^ n → ones w ≡ sum_to n (λ d. when (has_bit w d) 1)
unfolding ones
ones_lost zero w h = let z : w ≡ 0 = omega arith in ap ones z ∙ sym (sum_zero (λ d. when (has_bit w d) 1))
ones_lost (suc n) w h =
    let f : ℕ → ℕ = λ d. when (has_bit w d) 1 in
    let half : w / 2 < 2 ^ n = omega arith in
    let low : w % 2 ≡ f 0 = digit_when (w % 2) (mod-lt w (omega arith)) ∙ ap (λ (x : ℕ). when (eqb (x % 2) 1) 1) (sym (div-one w)) in
    let next : (d : ℕ) → w / 2 / 2 ^ d ≡ w / 2 ^ suc d = λ d. shr-shr w 1 d ∙ ap (λ (x : ℕ). w / 2 ^ x) (one-add d) in
    ones_step w ∙ ap₂ (λ (x y : ℕ). x + y) low (ones_lost n (w / 2) half ∙ sum_ext n (λ d. when (has_bit (w / 2) d) 1) (λ d. f (suc d)) (λ d l. ap (λ (x : ℕ). when (eqb (x % 2) 1) 1) (next d)))
    ∙ sym (sum_first n f)

-- where bit d of v alone is added, w has one more
one_more : (n v w d : ℕ) → v < 2 ^ n → w < 2 ^ n → d < n → has_bit v d ≡ false → ((e : ℕ) → has_bit w e ≡ (eqb e d || has_bit v e)) → ones w ≡ 1 + ones v
one_more n v w d hv hw l f all =
    ones_lost n w hw ∙ sum_ext n (λ e. when (has_bit w e) 1) (λ e. when (eqb e d || has_bit v e) 1) (λ e k. ap (λ (b : Bool). when b 1) (all e)) ∙ sum_more n d (has_bit v) l f ∙ ap (λ (x : ℕ). 1 + x) (sym (ones_lost n v hv))

either : (a b : Bool) → pick a true b ≡ (a || b)
either true b = refl
either false b = refl

-- an accepted loss is one lost disk more
pub loss_one_more : (n w d : ℕ) → w < 2 ^ n → d < n → has_bit w d ≡ false → ones (with_lost w d) ≡ 1 + ones w
loss_one_more n w d h l f = one_more n w (with_lost w d) d h (after_lt n w d false h l) l f (λ e. lost_after_lem w d e false ∙ either (eqb e d) (has_bit w e))

-- an accepted return is one fewer
pub return_one_fewer : (n w d : ℕ) → w < 2 ^ n → d < n → has_bit w d ≡ true → ones w ≡ 1 + ones (with_back w d)
return_one_fewer n w d h l t = one_more n (with_back w d) w d (after_lt n w d true h l) h l (own_after w d true) was
  where
    was : (e : ℕ) → has_bit w e ≡ (eqb e d || has_bit (with_back w d) e)
    was e =
        ⊎_elim
        (λ k. ap (has_bit w) (eqb-true e d k) ∙ t ∙ sym (ap (λ (b : Bool). b || has_bit (with_back w d) e) k))
        (λ k. sym (other_after w d e true (eqb-false e d k)) ∙ sym (ap (λ (b : Bool). b || has_bit (with_back w d) e) k))
        (flag (eqb e d))

-- ---- a lost disk over k + 1
pub none_over : (k w d : ℕ) → w < 2 ^ (k + 2) → k + 1 < d → has_bit w d ≡ false
none_over k w d h l = ap (λ (x : ℕ). eqb x 1) (none_past w (k + 2) d h (omega arith))

below_power : (n : ℕ) → n < 2 ^ n
below_power zero = omega arith
below_power (suc n) = omega (arith, below_power n)

pub some_over : (k w : ℕ) → 2 ^ (k + 2) ≤ w → (d : ℕ) × (k + 1 < d) × (has_bit w d ≡ true)
some_over k w l =
    let t = leading_top w w (lt_of_lt_of_le (pow_pos (k + 2)) l) (below_power w) in
    let j = t.0 in
    let over : k + 1 < j = ⊎_elim (λ m. m) (λ m. absurd (lt_irrefl w (lt_of_lt_of_le t.3 (le_trans (pow_mono (later m)) l)))) (lt_or_le (k + 1) j) in
    let least : 1 ≤ w / 2 ^ j = (le-div_iff_mul-le (pow_pos j)).1 (le_trans (le_of_eq (one-mul (2 ^ j))) t.2) in
    let one : w / 2 ^ j ≡ 1 = omega (arith, shr_lt 1 j (subst (λ (x : ℕ). w < 2 ^ x) (sym (one-add j)) t.3)) in
    (j, over, ap (λ (x : ℕ). eqb (x % 2) 1) one)
  where
    later : {j : ℕ} → j ≤ k + 1 → suc j ≤ k + 2
    later m = omega arith

-- a word without a bit past Q: q is the bit after Q
pub lost_accepted : (k w q : ℕ) → q ≡ 2 ^ (k + 2) → w < q → 0 ≡ lost_refusal k w
lost_accepted k w q e h = sym (ap (λ (t : Bool). when t 3) (lt-leb (2 ^ (k + 2)) w (subst (λ (x : ℕ). w < x) e h)))
