-- The sum of two words: its odd cells are those of just one of them, and they XOR to zero where
-- those of both do.
use mathlib.Core.Path.{◌≡◌, sym, ap, ap₂, ◌∙◌}
use mathlib.Core.Bool.{Bool, true, false, ◌&&◌}
use mathlib.Core.List.{List, []}
use Prim.Native.Nat.{ℕ, zero, suc, ◌+◌, ◌*◌, ◌<◌}
use native.Mathlib.Omega.{arith}
use lib.Bits.{bit_xor}
use lib.ListN.{length, replicate, length-replicate}
use Rattle.mathematics.specs.Choice.{pick}
use Rattle.mathematics.specs.Lists.{is_in}
use Rattle.mathematics.specs.Xor.{xor_l}
use Rattle.mathematics.proofs.ListLaws.{below_at}
use Rattle.mathematics.proofs.XorLaws.{xor_l_self, xor_l_zeros, zero_xor_l, xor_l_cross, zeros_bytes}
use Rattle.mathematics.specs.BitRows.Parity.{differ, bit}
use Rattle.mathematics.proofs.BitRows.BitLaws.{bit_xor_lem}
use Rattle.mathematics.proofs.BitRows.ParityLaws.{differ_and, to_ext, to_add}
use Rattle.liberation.specs.Stripes.Stripes.{cell_at, xor_over}
use Rattle.liberation.proofs.Stripes.StripeCellLaws.{cell_fits, cell_long}
use Rattle.liberation.proofs.Stripes.OverLaws.{over_long, over_bytes, over_append}
use Rattle.liberation.proofs.Stripes.Solving.{cells_long}
use Rattle.stripe_cells.proofs.OddLaws.{odd_over}
use Rattle.rebuild_cells.specs.Theory.Mending.{set_numbered, named_to, odd_cells}
use Rattle.rebuild_cells.proofs.Theory.OddCells.{odd_cell, numbered_below, named_below}

-- cells once, twice or not at all
picked : (s : ℕ) (g : ℕ → List ℕ) (a b : Bool) (xs : List ℕ) → length (xor_over s g xs) ≡ s → xor_over s g (pick (differ a b) xs []) ≡ xor_l (xor_over s g (pick a xs [])) (xor_over s g (pick b xs []))
unfolding xor_over
picked s g true true xs l = sym (xor_l_self (xor_over s g xs) ∙ ap (λ (m : ℕ). replicate m 0) l)
picked s g true false xs l = sym (xor_l_zeros s (xor_over s g xs) l (over_bytes s g xs))
picked s g false true xs l = sym (zero_xor_l s (xor_over s g xs) l (over_bytes s g xs))
picked s g false false xs l = sym (zero_xor_l s (replicate s 0) (length-replicate s 0) (zeros_bytes s))

module _ (p k : ℕ) (some : 0 < p) where
  pub odd_sum : (v w y : ℕ) → is_in y (odd_cells p k (bit_xor v w)) ≡ differ (is_in y (odd_cells p k v)) (is_in y (odd_cells p k w))
  odd_sum v w y =
      odd_cell p k some (bit_xor v w) y
      ∙ to_ext (2 * p) _ _ (λ i l. ap (λ (t : Bool). t && is_in y (set_numbered p k i)) (bit_xor_lem v w i) ∙ differ_and (bit v i) (bit w i) (is_in y (set_numbered p k i)))
      ∙ to_add (2 * p) (λ i. bit v i && is_in y (set_numbered p k i)) (λ i. bit w i && is_in y (set_numbered p k i))
      ∙ sym (ap₂ differ (odd_cell p k some v y) (odd_cell p k some w y))

  module _ (s : ℕ) (u : List ℕ) (long : length u ≡ p * (k + 2) * s) where
    -- the cells of the named sets, as often as they occur
    all : ℕ → ℕ → List ℕ
    all n w = xor_over s (cell_at s u) (named_to n p k w)

    one : ℕ → Bool → List ℕ
    one n t = xor_over s (cell_at s u) (pick t (set_numbered p k n) [])

    all_next : (n w : ℕ) → all (suc n) w ≡ xor_l (one n (bit w n)) (all n w)
    unfolding all one named_to
    all_next n w = over_append s (cell_at s u) (pick (bit w n) (set_numbered p k n) []) (named_to n p k w) (cells_long (p * (k + 2)) s (named_to n p k w) u long (named_below p k some n w))

    one_sum : (n : ℕ) (a b : Bool) → one n (differ a b) ≡ xor_l (one n a) (one n b)
    unfolding one
    one_sum n a b = picked s (cell_at s u) a b (set_numbered p k n) (over_long s (cell_at s u) (set_numbered p k n) (cells_long (p * (k + 2)) s (set_numbered p k n) u long (numbered_below p k some n)))

    all_sum : (n v w : ℕ) → all n (bit_xor v w) ≡ xor_l (all n v) (all n w)
    unfolding all named_to xor_over
    all_sum zero v w = sym (zero_xor_l s (replicate s 0) (length-replicate s 0) (zeros_bytes s))
    all_sum (suc n) v w =
        all_next n (bit_xor v w)
        ∙ ap₂ xor_l (ap (one n) (bit_xor_lem v w n) ∙ one_sum n (bit v n) (bit w n)) (all_sum n v w)
        ∙ xor_l_cross (one n (bit v n)) (one n (bit w n)) (all n v) (all n w)
        ∙ sym (ap₂ xor_l (all_next n v) (all_next n w))

    odd_all : (w : ℕ) → xor_over s (cell_at s u) (odd_cells p k w) ≡ all (2 * p) w
    unfolding all
    odd_all w =
        odd_over s (cell_at s u) (p * (k + 2)) (named_to (2 * p) p k w)
        (λ x h. cell_long s x u (omega (arith, cell_fits (p * (k + 2)) s x h)))
        (λ i h. below_at (p * (k + 2)) i (named_to (2 * p) p k w) (named_below p k some (2 * p) w) h)

    pub zero_sum : (v w : ℕ) → xor_over s (cell_at s u) (odd_cells p k v) ≡ replicate s 0 → xor_over s (cell_at s u) (odd_cells p k w) ≡ replicate s 0 → xor_over s (cell_at s u) (odd_cells p k (bit_xor v w)) ≡ replicate s 0
    zero_sum v w hv hw =
        odd_all (bit_xor v w)
        ∙ all_sum (2 * p) v w
        ∙ ap₂ xor_l (sym (odd_all v) ∙ hv) (sym (odd_all w) ∙ hw)
        ∙ zero_xor_l s (replicate s 0) (length-replicate s 0) (zeros_bytes s)
