-- The XOR over a list is the XOR over the places that occur in it an odd number of times: toggling
-- a mark adds its cell to the XOR over the odd places, since a cell XORed twice is nothing.
use mathlib.Core.Path.{◌≡◌, refl, sym, ap, ◌∙◌}
use mathlib.Core.Bool.{Bool, true, false, not}
use mathlib.Core.List.{List, [], ◌∷◌, ◌++◌}
use Prim.Native.Nat.{ℕ, zero, suc, ◌+◌, ◌*◌, ◌/◌, ◌%◌, ◌≤◌, ◌<◌}
use native.Mathlib.Nat.{mod-lt}
use native.Mathlib.Omega.{arith}
use lib.Bits.{bit_xor, differ, xor_step}
use lib.Dec.{eqb}
use lib.ListN.{length, get_or, drop, replicate, length-set, length-replicate, drop_of_length-le}
use Rattle.mathematics.specs.Choice.{pick}
use Rattle.mathematics.specs.Xor.{xor_l}
use Rattle.mathematics.proofs.XorLaws.{xor_l_assoc, xor_l_swap, xor_l_twice, xor_l_zeros, zero_xor_l, length_xor_l}
use Rattle.mathematics.proofs.SearchLaws.{drop_next}
use Rattle.liberation.specs.Stripes.Stripes.{cell_at, xor_over}
use Rattle.liberation.proofs.Stripes.OverLaws.{over_bytes}
use Rattle.xor.specs.Parts.{xor_offsets}
use Rattle.stripe_cells.specs.Offsets.{scaled}
use Rattle.stripe_cells.proofs.OffsetLaws.{over_offsets}
use Rattle.stripe_cells.specs.Toggled.{is_odd, odd_from, toggled, toggled_all}

-- a toggled mark
pub flip : (m : ℕ) → is_odd (bit_xor m 1) ≡ not (is_odd m)
flip m = low (m % 2) refl (mod-lt m {m = 2} (omega arith))
  where
    low : (d : ℕ) → m % 2 ≡ d → d < 2 → is_odd (bit_xor m 1) ≡ not (is_odd m)
    low zero e h =
        let q : bit_xor m 1 % 2 ≡ 1 = ap (λ (n : ℕ). n % 2) (xor_step m 1 ∙ ap (λ (k : ℕ). bit_xor (m / 2) 0 * 2 + differ k 1) e) ∙ omega arith in
        ap (λ (n : ℕ). eqb n 1) q ∙ sym (ap (λ (n : ℕ). not (eqb n 1)) e)
    low (suc zero) e h =
        let q : bit_xor m 1 % 2 ≡ 0 = ap (λ (n : ℕ). n % 2) (xor_step m 1 ∙ ap (λ (k : ℕ). bit_xor (m / 2) 0 * 2 + differ k 1) e) ∙ omega arith in
        ap (λ (n : ℕ). eqb n 1) q ∙ sym (ap (λ (n : ℕ). not (eqb n 1)) e)
    low (suc (suc d)) e h = absurd (omega arith)

-- the marks stay as many, and lists are toggled one after the other
pub toggled_long : (xs ms : List ℕ) → length (toggled_all xs ms) ≡ length ms
unfolding toggled_all
toggled_long [] ms = refl
toggled_long (x ∷ xs) ms = toggled_long xs (toggled x ms) ∙ length-set ms x (bit_xor (get_or ms x 0) 1)

pub toggled_append : (xs ys ms : List ℕ) → toggled_all (xs ++ ys) ms ≡ toggled_all ys (toggled_all xs ms)
unfolding toggled_all
toggled_append [] ys ms = refl
toggled_append (x ∷ xs) ys ms = toggled_append xs ys (toggled x ms)

-- the cells of the places that have marks have s bytes
abbrev pub Cells : ℕ → (ℕ → List ℕ) → ℕ → Type 0
Cells s g n = (x : ℕ) → x < n → length (g x) ≡ s

-- the places of a list have marks
abbrev pub Below : ℕ → List ℕ → Type 0
Below n xs = (i : ℕ) → i < length xs → get_or xs i 0 < n

none_odd : (i n : ℕ) → odd_from i (replicate n 0) ≡ []
unfolding odd_from
none_odd i zero = refl
none_odd i (suc n) = none_odd (suc i) n

module _ (s : ℕ) (g : ℕ → List ℕ) where
  -- one cell more
  more_long : (x : ℕ) (xs : List ℕ) → length (g x) ≡ s → length (xor_over s g xs) ≡ s → length (xor_over s g (x ∷ xs)) ≡ s
  unfolding xor_over
  more_long x xs e h = length_xor_l (g x) (xor_over s g xs) (e ∙ sym h) ∙ e

  odd_long : (i n : ℕ) (ms : List ℕ) → n ≡ i + length ms → Cells s g n → length (xor_over s g (odd_from i ms)) ≡ s
  unfolding xor_over odd_from
  odd_long i n [] e c = length-replicate s 0
  odd_long i n (m ∷ ms) e c = go (is_odd m) (odd_long (suc i) n ms (omega arith) c)
    where
      go : (b : Bool) → length (xor_over s g (odd_from (suc i) ms)) ≡ s → length (xor_over s g (pick b (i ∷ odd_from (suc i) ms) (odd_from (suc i) ms))) ≡ s
      go true h = more_long i (odd_from (suc i) ms) (c i (omega arith)) h
      go false h = h

  -- one place toggled
  odd_toggled : (i n x : ℕ) (ms : List ℕ) → n ≡ i + length ms → Cells s g n → x < length ms → xor_over s g (odd_from i (toggled x ms)) ≡ xor_l (g (i + x)) (xor_over s g (odd_from i ms))
  unfolding xor_over odd_from
  odd_toggled i n x [] e c h = absurd (omega arith)
  odd_toggled i n zero (m ∷ ms) e c h =
      let z : i ≡ i + 0 = omega arith in
      ap (λ (b : Bool). xor_over s g (pick b (i ∷ odd_from (suc i) ms) (odd_from (suc i) ms))) (flip m) ∙ go (is_odd m) ∙ ap (λ (k : ℕ). xor_l (g k) (xor_over s g (odd_from i (m ∷ ms)))) z
    where
      go : (b : Bool) → xor_over s g (pick (not b) (i ∷ odd_from (suc i) ms) (odd_from (suc i) ms)) ≡ xor_l (g i) (xor_over s g (pick b (i ∷ odd_from (suc i) ms) (odd_from (suc i) ms)))
      go true = sym (xor_l_twice s (g i) (xor_over s g (odd_from (suc i) ms)) (c i (omega arith)) (odd_long (suc i) n ms (omega arith) c) (over_bytes s g (odd_from (suc i) ms)))
      go false = refl
  odd_toggled i n (suc x) (m ∷ ms) e c h =
      let z : suc i + x ≡ i + suc x = omega arith in
      go (is_odd m) (odd_toggled (suc i) n x ms (omega arith) c (omega arith)) ∙ ap (λ (k : ℕ). xor_l (g k) (xor_over s g (odd_from i (m ∷ ms)))) z
    where
      go : (b : Bool) → xor_over s g (odd_from (suc i) (toggled x ms)) ≡ xor_l (g (suc i + x)) (xor_over s g (odd_from (suc i) ms))
          → xor_over s g (pick b (i ∷ odd_from (suc i) (toggled x ms)) (odd_from (suc i) (toggled x ms))) ≡ xor_l (g (suc i + x)) (xor_over s g (pick b (i ∷ odd_from (suc i) ms) (odd_from (suc i) ms)))
      go true rest = ap (xor_l (g i)) rest ∙ xor_l_swap (g i) (g (suc i + x)) (xor_over s g (odd_from (suc i) ms))
      go false rest = rest

  -- those of a list
  odd_all : (n : ℕ) (xs ms : List ℕ) → n ≡ length ms → Cells s g n → Below n xs → xor_over s g (odd_from 0 (toggled_all xs ms)) ≡ xor_l (xor_over s g xs) (xor_over s g (odd_from 0 ms))
  unfolding xor_over toggled_all
  odd_all n [] ms e c b = sym (zero_xor_l s (xor_over s g (odd_from 0 ms)) (odd_long 0 n ms (omega arith) c) (over_bytes s g (odd_from 0 ms)))
  odd_all n (x ∷ xs) ms e c b =
      let odd = xor_over s g (odd_from 0 ms) in
      let z : 0 + x ≡ x = omega arith in
      odd_all n xs (toggled x ms) (e ∙ sym (length-set ms x (bit_xor (get_or ms x 0) 1))) c (λ i h. b (suc i) (omega arith))
      ∙ ap (xor_l (xor_over s g xs)) (odd_toggled 0 n x ms (omega arith) c (omega (arith, b 0 (omega arith))) ∙ ap (λ (k : ℕ). xor_l (g k) odd) z)
      ∙ xor_l_swap (xor_over s g xs) (g x) odd
      ∙ sym (xor_l_assoc (g x) (xor_over s g xs) odd)

  over_long : (n : ℕ) (xs : List ℕ) → Cells s g n → Below n xs → length (xor_over s g xs) ≡ s
  unfolding xor_over
  over_long n [] c b = length-replicate s 0
  over_long n (x ∷ xs) c b = more_long x xs (c x (b 0 (omega arith))) (over_long n xs c (λ i h. b (suc i) (omega arith)))

  -- toggled along xs from no marks at all
  pub odd_over : (n : ℕ) (xs : List ℕ) → Cells s g n → Below n xs → xor_over s g (odd_from 0 (toggled_all xs (replicate n 0))) ≡ xor_over s g xs
  unfolding xor_over
  odd_over n xs c b =
      odd_all n xs (replicate n 0) (sym (length-replicate n 0)) c b
      ∙ ap (λ (ys : List ℕ). xor_l (xor_over s g xs) (xor_over s g ys)) (none_odd 0 n)
      ∙ xor_l_zeros s (xor_over s g xs) (over_long n xs c b) (over_bytes s g xs)

-- so with offsets in a stripe
pub odd_offsets_lem : (s n : ℕ) (t xs : List ℕ) → Cells s (cell_at s t) n → Below n xs → xor_offsets s t (scaled s (odd_from 0 (toggled_all xs (replicate n 0)))) ≡ xor_offsets s t (scaled s xs)
odd_offsets_lem s n t xs c b = over_offsets s t (odd_from 0 (toggled_all xs (replicate n 0))) ∙ odd_over s (cell_at s t) n xs c b ∙ sym (over_offsets s t xs)

-- the loop: the places still to come
pub toggled_next : (xs ms : List ℕ) (i x : ℕ) → i < length xs → x ≡ get_or xs i 0 → toggled_all (drop (i + 1) xs) (toggled x ms) ≡ toggled_all (drop i xs) ms
unfolding toggled_all
toggled_next xs ms i x h e = ap (λ (l : List ℕ). toggled_all l ms) (sym (drop_next xs i x h e))

pub toggled_end : (xs ms : List ℕ) (i : ℕ) → length xs ≤ i → ms ≡ toggled_all (drop i xs) ms
unfolding toggled_all
toggled_end xs ms i h = ap (λ (l : List ℕ). toggled_all l ms) (sym (drop_of_length-le xs h))
