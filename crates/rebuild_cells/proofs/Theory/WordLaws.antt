-- The equations of the sets in the missing cells: bit b of a set's word says that the set holds
-- cell b.
use mathlib.Core.Path.{◌≡◌, refl, sym, ap, ◌∙◌}
use mathlib.Core.Bool.{Bool, true, false}
use mathlib.Core.List.{List, [], ◌∷◌}
use Prim.Native.Nat.{ℕ, zero, suc, ◌+◌, ◌*◌, ◌/◌, ◌%◌, ◌^◌, ◌<◌}
use native.Mathlib.Nat.{div-one}
use native.Mathlib.Omega.{arith}
use lib.Dec.{eqb}
use lib.ListN.{length, get_or}
use lib.Pow.{shr-shr}
use Rattle.mathematics.specs.Choice.{when}
use Rattle.mathematics.specs.Lists.{is_in}
use Rattle.mathematics.specs.BitRows.Parity.{bit}
use Rattle.rebuild_cells.specs.Theory.Mending.{set_numbered, word_of, words_from, powers_from}

-- the bits of a word that is put together from its lowest one
bit_low : (t : Bool) (w : ℕ) → bit (when t 1 + 2 * w) 0 ≡ t
bit_low true w = let e : (1 + 2 * w) / 1 % 2 ≡ 1 = ap (λ (x : ℕ). x % 2) (div-one (1 + 2 * w)) ∙ omega arith in ap (λ (x : ℕ). eqb x 1) e
bit_low false w = let e : (0 + 2 * w) / 1 % 2 ≡ 0 = ap (λ (x : ℕ). x % 2) (div-one (0 + 2 * w)) ∙ omega arith in ap (λ (x : ℕ). eqb x 1) e

bit_next : (t : Bool) (w b : ℕ) → bit (when t 1 + 2 * w) (suc b) ≡ bit w b
bit_next t w b =
    let e : suc b ≡ 1 + b = omega arith in
    ap (λ (x : ℕ). eqb ((when t 1 + 2 * w) / 2 ^ x % 2) 1) e
    ∙ ap (λ (x : ℕ). eqb (x % 2) 1) (sym (shr-shr (when t 1 + 2 * w) 1 b) ∙ ap (λ (x : ℕ). x / 2 ^ b) (half t))
  where
    half : (t : Bool) → (when t 1 + 2 * w) / 2 ^ 1 ≡ w
    half true = omega arith
    half false = omega arith

pub word_bit : (cs xs : List ℕ) (b : ℕ) → b < length cs → bit (word_of cs xs) b ≡ is_in (get_or cs b 0) xs
unfolding word_of
word_bit [] xs b h = absurd (omega arith)
word_bit (c ∷ cs) xs zero h = bit_low (is_in c xs) (word_of cs xs)
word_bit (c ∷ cs) xs (suc b) h = bit_next (is_in c xs) (word_of cs xs) b ∙ word_bit cs xs b (omega arith)

-- the lists of the words, set by set
pub words_long : (n i p k : ℕ) (cs : List ℕ) → length (words_from n i p k cs) ≡ n
unfolding words_from
words_long zero i p k cs = refl
words_long (suc n) i p k cs = ap suc (words_long n (suc i) p k cs)

pub powers_long : (n i : ℕ) → length (powers_from n i) ≡ n
unfolding powers_from
powers_long zero i = refl
powers_long (suc n) i = ap suc (powers_long n (suc i))

pub words_at : (n i p k : ℕ) (cs : List ℕ) (j : ℕ) → j < n → get_or (words_from n i p k cs) j 0 ≡ word_of cs (set_numbered p k (i + j))
unfolding words_from
words_at zero i p k cs j h = absurd (omega arith)
words_at (suc n) i p k cs zero h = let e : i ≡ i + 0 = omega arith in ap (λ (x : ℕ). word_of cs (set_numbered p k x)) e
words_at (suc n) i p k cs (suc j) h = let e : suc i + j ≡ i + suc j = omega arith in words_at n (suc i) p k cs j (omega arith) ∙ ap (λ (x : ℕ). word_of cs (set_numbered p k x)) e

pub powers_at : (n i j : ℕ) → j < n → get_or (powers_from n i) j 0 ≡ 2 ^ (i + j)
unfolding powers_from
powers_at zero i j h = absurd (omega arith)
powers_at (suc n) i zero h = let e : i ≡ i + 0 = omega arith in ap (λ (x : ℕ). 2 ^ x) e
powers_at (suc n) i (suc j) h = let e : suc i + j ≡ i + suc j = omega arith in powers_at n (suc i) j (omega arith) ∙ ap (λ (x : ℕ). 2 ^ x) e
