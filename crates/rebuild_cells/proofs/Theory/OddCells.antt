-- The cells that occur an odd number of times in the sets that a word names: they are found by the
-- bits of the word, and in a clean stripe they XOR to zero.
use mathlib.Core.Path.{◌≡◌, refl, sym, ap, ap₂, ◌∙◌}
use mathlib.Core.Bool.{Bool, true, false, ◌&&◌, ◌||◌, not}
use mathlib.Core.List.{List, [], ◌∷◌}
use mathlib.Core.Logic.{⊎_elim}
use Prim.Native.Nat.{ℕ, zero, suc, ◌+◌, ◌*◌, ◌/◌, ◌%◌, ◌<◌}
use native.Mathlib.Nat.{mod-lt}
use native.Mathlib.Omega.{arith}
use lib.Bits.{bit_xor}
use lib.Dec.{eqb, ltb}
use lib.ListN.{length, get_or, replicate, length-set, length-replicate}
use lib.Seq.{get_or-set_same, get_or-set_other}
use borrow.Author.Tests.{eq-eqb, ne_eqb, lt-ltb, ltb-true}
use Rattle.mathematics.specs.Choice.{pick}
use Rattle.mathematics.specs.Lists.{is_in, distinct, all_below}
use Rattle.mathematics.proofs.Flags.{and_i, and_l, and_r}
use Rattle.mathematics.proofs.ListLaws.{below_append, below_at}
use Rattle.mathematics.proofs.OrderLaws.{eq_or_ne}
use Rattle.mathematics.specs.Xor.{xor_l}
use Rattle.mathematics.proofs.XorLaws.{zero_xor_l, zeros_bytes}
use Rattle.mathematics.specs.BitRows.Parity.{differ, odd_to, odd_in, bit}
use Rattle.mathematics.proofs.BitRows.ParityLaws.{differ_false, in_append, in_distinct}
use Rattle.liberation.proofs.SetLaws.{set_below}
use Rattle.liberation.proofs.DistinctLaws.{distinct_set}
use Rattle.liberation.specs.Stripes.Stripes.{cell_at, xor_over, is_stripe, clean}
use Rattle.liberation.proofs.Stripes.StripeCellLaws.{cell_fits, cell_long}
use Rattle.liberation.proofs.Stripes.OverLaws.{Long, over_append}
use Rattle.liberation.proofs.Stripes.Solving.{cells_long, stripe_long_lem, clean_at}
use Rattle.stripe_cells.proofs.OddLaws.{flip, toggled_long, odd_over}
use Rattle.stripe_cells.specs.Toggled.{is_odd, odd_from, toggled, toggled_all}
use Rattle.rebuild_cells.specs.Theory.Mending.{set_numbered, named_to, odd_cells}

-- ---- toggled marks
-- a mark is toggled as often as its place is in the list
pub toggled_odd : (xs ms : List ℕ) (y : ℕ) → all_below (length ms) xs ≡ true → is_odd (get_or (toggled_all xs ms) y 0) ≡ differ (odd_in (eqb y) xs) (is_odd (get_or ms y 0))
unfolding toggled_all odd_in
toggled_odd [] ms y h = refl
toggled_odd (x ∷ xs) ms y h =
    toggled_odd xs (toggled x ms) y (ap (λ (n : ℕ). all_below n xs) (length-set ms x (bit_xor (get_or ms x 0) 1)) ∙ and_r (ltb x (length ms)) (all_below (length ms) xs) h)
    ∙ ap (differ (odd_in (eqb y) xs)) (⊎_elim same other (eq_or_ne y x))
    ∙ differ_swap (odd_in (eqb y) xs) (eqb y x) (is_odd (get_or ms y 0))
  where
    same : y ≡ x → is_odd (get_or (toggled x ms) y 0) ≡ differ (eqb y x) (is_odd (get_or ms y 0))
    same e =
        ap (λ (z : ℕ). is_odd (get_or (toggled x ms) z 0)) e
        ∙ ap is_odd (get_or-set_same ms x (bit_xor (get_or ms x 0) 1) 0 (ltb-true x (length ms) (and_l (ltb x (length ms)) (all_below (length ms) xs) h)))
        ∙ flip (get_or ms x 0)
        ∙ sym (ap₂ (λ (t : Bool) (z : ℕ). differ t (is_odd (get_or ms z 0))) (eq-eqb y x e) e)

    other : (y ≡ x → ⊥) → is_odd (get_or (toggled x ms) y 0) ≡ differ (eqb y x) (is_odd (get_or ms y 0))
    other q = ap is_odd (get_or-set_other ms x y (bit_xor (get_or ms x 0) 1) 0 q) ∙ sym (ap (λ (t : Bool). differ t (is_odd (get_or ms y 0))) (ne_eqb y x q))

    differ_swap : (a b c : Bool) → differ a (differ b c) ≡ differ (differ b a) c
    differ_swap true true true = refl
    differ_swap true true false = refl
    differ_swap true false c = refl
    differ_swap false b c = ap (λ (t : Bool). differ t c) (sym (differ_false b))

pub none_odd : (n y : ℕ) → is_odd (get_or (replicate n 0) y 0) ≡ false
none_odd zero y = refl
none_odd (suc n) zero = refl
none_odd (suc n) (suc y) = none_odd n y

-- ---- the places of the odd marks
odd_before : (i y : ℕ) (ms : List ℕ) → y < i → is_in y (odd_from i ms) ≡ false
unfolding odd_from
odd_before i y [] h = refl
odd_before i y (m ∷ ms) h = go (is_odd m) (odd_before (suc i) y ms (omega arith))
  where
    go : (b : Bool) → is_in y (odd_from (suc i) ms) ≡ false → is_in y (pick b (i ∷ odd_from (suc i) ms) (odd_from (suc i) ms)) ≡ false
    go true e = ap₂ ◌||◌ (ne_eqb y i (λ q. omega arith)) e
    go false e = e

odd_in_lem : (i z : ℕ) (ms : List ℕ) → is_in (i + z) (odd_from i ms) ≡ is_odd (get_or ms z 0)
unfolding odd_from
odd_in_lem i z [] = refl
odd_in_lem i zero (m ∷ ms) = let e : i + 0 ≡ i = omega arith in ap (λ (x : ℕ). is_in x (odd_from i (m ∷ ms))) e ∙ go (is_odd m)
  where
    go : (b : Bool) → is_in i (pick b (i ∷ odd_from (suc i) ms) (odd_from (suc i) ms)) ≡ b
    go true = ap (λ (t : Bool). t || is_in i (odd_from (suc i) ms)) (eq-eqb i i refl)
    go false = odd_before (suc i) i ms (omega arith)
odd_in_lem i (suc z) (m ∷ ms) = let e : i + suc z ≡ suc i + z = omega arith in ap (λ (x : ℕ). is_in x (odd_from i (m ∷ ms))) e ∙ go (is_odd m) ∙ odd_in_lem (suc i) z ms
  where
    go : (b : Bool) → is_in (suc i + z) (pick b (i ∷ odd_from (suc i) ms) (odd_from (suc i) ms)) ≡ is_in (suc i + z) (odd_from (suc i) ms)
    go true = ap (λ (t : Bool). t || is_in (suc i + z) (odd_from (suc i) ms)) (ne_eqb (suc i + z) i (λ q. omega arith))
    go false = refl

odd_distinct : (i : ℕ) (ms : List ℕ) → distinct (odd_from i ms) ≡ true
unfolding odd_from
odd_distinct i [] = refl
odd_distinct i (m ∷ ms) = go (is_odd m) (odd_distinct (suc i) ms)
  where
    go : (b : Bool) → distinct (odd_from (suc i) ms) ≡ true → distinct (pick b (i ∷ odd_from (suc i) ms) (odd_from (suc i) ms)) ≡ true
    go true e = and_i _ _ (ap not (odd_before (suc i) i ms (omega arith))) e
    go false e = e

odd_below : (i n : ℕ) (ms : List ℕ) → i + length ms ≡ n → all_below n (odd_from i ms) ≡ true
unfolding odd_from
odd_below i n [] e = refl
odd_below i n (m ∷ ms) e = go (is_odd m) (odd_below (suc i) n ms (omega arith))
  where
    go : (b : Bool) → all_below n (odd_from (suc i) ms) ≡ true → all_below n (pick b (i ∷ odd_from (suc i) ms) (odd_from (suc i) ms)) ≡ true
    go true h = and_i _ _ (lt-ltb i n (omega arith)) h
    go false h = h

-- ---- the sets that a word names
module _ (p k : ℕ) (some : 0 < p) where
  pub numbered_distinct : (i : ℕ) → distinct (set_numbered p k i) ≡ true
  numbered_distinct i = distinct_set p k (i / p) (i % p) (mod-lt i some)

  pub numbered_below : (i : ℕ) → all_below (p * (k + 2)) (set_numbered p k i) ≡ true
  numbered_below i = set_below p k (i / p) (i % p) (mod-lt i some)

  -- how often a cell occurs in them
  named_odd : (n w y : ℕ) → odd_in (eqb y) (named_to n p k w) ≡ odd_to n (λ i. bit w i && is_in y (set_numbered p k i))
  unfolding named_to odd_to odd_in
  named_odd zero w y = refl
  named_odd (suc n) w y =
      in_append (eqb y) (pick (bit w n) (set_numbered p k n) []) (named_to n p k w)
      ∙ ap₂ differ (go (bit w n)) (named_odd n w y)
    where
      go : (b : Bool) → odd_in (eqb y) (pick b (set_numbered p k n) []) ≡ (b && is_in y (set_numbered p k n))
      go true = in_distinct y (set_numbered p k n) (numbered_distinct n)
      go false = refl

  pub named_below : (n w : ℕ) → all_below (p * (k + 2)) (named_to n p k w) ≡ true
  unfolding named_to
  named_below zero w = refl
  named_below (suc n) w = below_append (p * (k + 2)) (pick (bit w n) (set_numbered p k n) []) (named_to n p k w) (go (bit w n)) (named_below n w)
    where
      go : (b : Bool) → all_below (p * (k + 2)) (pick b (set_numbered p k n) []) ≡ true
      go true = numbered_below n
      go false = refl

  -- their odd cells
  pub odd_cell : (w y : ℕ) → is_in y (odd_cells p k w) ≡ odd_to (2 * p) (λ i. bit w i && is_in y (set_numbered p k i))
  odd_cell w y =
      let z : y ≡ 0 + y = omega arith in
      ap (λ (x : ℕ). is_in x (odd_cells p k w)) z
      ∙ odd_in_lem 0 y (toggled_all (named_to (2 * p) p k w) (replicate (p * (k + 2)) 0))
      ∙ toggled_odd (named_to (2 * p) p k w) (replicate (p * (k + 2)) 0) y (ap (λ (n : ℕ). all_below n (named_to (2 * p) p k w)) (length-replicate (p * (k + 2)) 0) ∙ named_below (2 * p) w)
      ∙ ap (differ (odd_in (eqb y) (named_to (2 * p) p k w))) (none_odd (p * (k + 2)) y)
      ∙ differ_false (odd_in (eqb y) (named_to (2 * p) p k w))
      ∙ named_odd (2 * p) w y

  pub cells_distinct : (w : ℕ) → distinct (odd_cells p k w) ≡ true
  cells_distinct w = odd_distinct 0 (toggled_all (named_to (2 * p) p k w) (replicate (p * (k + 2)) 0))

  pub cells_below : (w : ℕ) → all_below (p * (k + 2)) (odd_cells p k w) ≡ true
  cells_below w =
      let e = toggled_long (named_to (2 * p) p k w) (replicate (p * (k + 2)) 0) ∙ length-replicate (p * (k + 2)) 0 in
      odd_below 0 (p * (k + 2)) (toggled_all (named_to (2 * p) p k w) (replicate (p * (k + 2)) 0)) (omega arith)

  -- in a clean stripe they XOR to zero
  module _ (s : ℕ) (u : List ℕ) (hu : is_stripe p k s u ≡ true) (cu : clean p k s u ≡ true) where
    long : (xs : List ℕ) → all_below (p * (k + 2)) xs ≡ true → Long s (cell_at s u) xs
    long xs h = cells_long (p * (k + 2)) s xs u (stripe_long_lem p k s u hu) h

    named_zero : (n w : ℕ) → xor_over s (cell_at s u) (named_to n p k w) ≡ replicate s 0
    unfolding named_to xor_over
    named_zero zero w = refl
    named_zero (suc n) w =
        over_append s (cell_at s u) (pick (bit w n) (set_numbered p k n) []) (named_to n p k w) (long (named_to n p k w) (named_below n w))
        ∙ ap₂ xor_l (go (bit w n)) (named_zero n w)
        ∙ zero_xor_l s (replicate s 0) (length-replicate s 0) (zeros_bytes s)
      where
        go : (b : Bool) → xor_over s (cell_at s u) (pick b (set_numbered p k n) []) ≡ replicate s 0
        go true = clean_at p k s u cu (n / p) (n % p) (mod-lt n some)
        go false = refl

    pub odd_zero : (w : ℕ) → xor_over s (cell_at s u) (odd_cells p k w) ≡ replicate s 0
    odd_zero w =
        odd_over s (cell_at s u) (p * (k + 2)) (named_to (2 * p) p k w)
        (λ x h. cell_long s x u (omega (arith, cell_fits (p * (k + 2)) s x h, stripe_long_lem p k s u hu)))
        (λ i h. below_at (p * (k + 2)) i (named_to (2 * p) p k w) (named_below (2 * p) w) h)
        ∙ named_zero (2 * p) w
