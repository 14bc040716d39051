-- All rows at once: the cells of row 0 begin the columns, so one XOR of p × s bytes over their
-- offsets has the XOR of row i's cells as its cell i, and is 0 exactly if that of every row is. The
-- cells on a disk f may be left out.
use mathlib.Core.Path.{◌≡◌, refl, sym, ap, ap₂, ◌∙◌}
use mathlib.Core.Bool.{Bool, true, false, ◌&&◌}
use mathlib.Core.List.{List, ◌∷◌}
use Prim.Native.Nat.{ℕ, zero, suc, ◌+◌, ◌*◌, ◌≤◌, ◌<◌}
use native.Mathlib.Omega.{arith}
use lib.Dec.{eqb}
use lib.ListN.{length, take, drop, replicate}
use lib.Seq.{drop-drop, take_all}
use Rattle.mathematics.specs.Choice.{pick}
use Rattle.mathematics.specs.Lists.{same}
use Rattle.mathematics.specs.Sums.{all_to}
use Rattle.mathematics.specs.Xor.{xor_l}
use Rattle.liberation.specs.Sets.{place, row_from, surviving_in}
use Rattle.liberation.proofs.Stripes.StripeCellLaws.{cell_fits}
use Rattle.xor.specs.Parts.{part, xor_offsets}
use Rattle.xor.proofs.BlockLaws.{Within, part_block, offsets_long}
use Rattle.xor.proofs.ZeroLaws.{none_to, none_add}
use Rattle.stripe_cells.specs.Offsets.{scaled}
use Rattle.stripe_cells.proofs.KeptLaws.{cell_walk, surviving_first}

-- the cells of row 0 but that on disk f, i cells further on, are those of row i
moved : (s p i f n c : ℕ) (t : List ℕ) → i < p → xor_offsets s (drop (i * s) t) (scaled s (surviving_in p f (row_from n p 0 c))) ≡ xor_offsets s t (scaled s (surviving_in p f (row_from n p i c)))
unfolding xor_offsets scaled row_from surviving_in
moved s p i f zero c t h = refl
moved s p i f (suc n) c t h = ap (sum (drop (i * s) t)) (first 0 (omega arith)) ∙ go (eqb c f) (moved s p i f n (suc c) t h) ∙ sym (ap (sum t) (first i h))
  where
    sum : List ℕ → List ℕ → List ℕ
    sum u xs = xor_offsets s u (scaled s xs)

    first : (r : ℕ) → r < p → surviving_in p f (row_from (suc n) p r c) ≡ pick (eqb c f) (surviving_in p f (row_from n p r (suc c))) (place p r c ∷ surviving_in p f (row_from n p r (suc c)))
    first r k = surviving_first p (λ d. r) (λ d. k) (cell_walk 0 p r) f n c (eqb c f) refl

    go : (b : Bool) → sum (drop (i * s) t) (surviving_in p f (row_from n p 0 (suc c))) ≡ sum t (surviving_in p f (row_from n p i (suc c)))
        → sum (drop (i * s) t) (pick b (surviving_in p f (row_from n p 0 (suc c))) (place p 0 c ∷ surviving_in p f (row_from n p 0 (suc c)))) ≡ sum t (pick b (surviving_in p f (row_from n p i (suc c))) (place p i c ∷ surviving_in p f (row_from n p i (suc c))))
    go true e = e
    go false e =
        let q : i * s + (c * p + 0) * s ≡ (c * p + i) * s = omega arith in
        ap₂ xor_l (ap (take s) (drop-drop ((c * p + 0) * s) (i * s) t ∙ ap (λ (k : ℕ). drop k t) q)) e

module _ (s p f n : ℕ) (t : List ℕ) where
  abbrev run : List ℕ
  run = xor_offsets (p * s) t (scaled s (surviving_in p f (row_from n p 0 0)))

  pub run_cell : (i : ℕ) → i < p → part s (i * s) (xor_offsets (p * s) t (scaled s (surviving_in p f (row_from n p 0 0)))) ≡ xor_offsets s t (scaled s (surviving_in p f (row_from n p i 0)))
  run_cell i h = part_block s (i * s) (p * s) t (scaled s (surviving_in p f (row_from n p 0 0))) (cell_fits p s i h) ∙ moved s p i f n 0 t h

  module _ (fit : Within (p * s) (length t) (scaled s (surviving_in p f (row_from n p 0 0)))) where
    run_long : length run ≡ p * s
    run_long = offsets_long (p * s) t (scaled s (surviving_in p f (row_from n p 0 0))) fit

    -- the first m rows
    rows_zero : (m : ℕ) → m ≤ p → none_to (m * s) run ≡ all_to m (λ i. same (xor_offsets s t (scaled s (surviving_in p f (row_from n p i 0)))) (replicate s 0))
    unfolding all_to
    rows_zero zero h = let e : 0 * s ≡ 0 = omega arith in ap (λ (k : ℕ). none_to k run) e
    rows_zero (suc m) h =
        none_add (m * s) s (suc m * s) run (omega arith) (omega (arith, cell_fits p s m h, run_long))
        ∙ ap₂ ◌&&◌ (rows_zero m (omega arith)) (ap (λ (l : List ℕ). same l (replicate s 0)) (run_cell m h))

    pub run_zero : same (xor_offsets (p * s) t (scaled s (surviving_in p f (row_from n p 0 0)))) (replicate (p * s) 0) ≡ all_to p (λ i. same (xor_offsets s t (scaled s (surviving_in p f (row_from n p i 0)))) (replicate s 0))
    run_zero = ap (λ (l : List ℕ). same l (replicate (p * s) 0)) (sym (take_all (p * s) run (omega (arith, run_long)))) ∙ rows_zero p (omega arith)
