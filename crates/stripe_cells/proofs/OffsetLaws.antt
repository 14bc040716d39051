-- Offsets of cells: as many as the cells, in the stripe where the cells are, and their parts XOR to
-- what the cells XOR to.
use mathlib.Core.Path.{◌≡◌, refl, ap}
use mathlib.Core.Bool.{true}
use mathlib.Core.List.{List, [], ◌∷◌, ◌++◌}
use Prim.Native.Nat.{ℕ, zero, suc, ◌+◌, ◌*◌, ◌≤◌, ◌<◌}
use native.Mathlib.Omega.{arith}
use lib.ListN.{length, get_or}
use Rattle.mathematics.specs.Lists.{all_below}
use Rattle.mathematics.specs.Xor.{xor_l}
use Rattle.mathematics.proofs.ListLaws.{below_at}
use Rattle.liberation.specs.Stripes.Stripes.{cell_at, xor_over}
use Rattle.liberation.proofs.Stripes.StripeCellLaws.{cell_fits}
use Rattle.xor.specs.Parts.{xor_offsets}
use Rattle.xor.specs.Reach.{Reached}
use Rattle.stripe_cells.specs.Offsets.{scaled}

pub length_scaled : (s : ℕ) (xs : List ℕ) → length (scaled s xs) ≡ length xs
unfolding scaled
length_scaled s [] = refl
length_scaled s (x ∷ xs) = ap suc (length_scaled s xs)

pub scaled_append : (s : ℕ) (xs ys : List ℕ) → scaled s (xs ++ ys) ≡ scaled s xs ++ scaled s ys
unfolding scaled
scaled_append s [] ys = refl
scaled_append s (x ∷ xs) ys = ap (λ (l : List ℕ). x * s ∷ l) (scaled_append s xs ys)

-- the XOR of the parts at the cells' offsets is that of the cells
pub over_offsets : (s : ℕ) (t xs : List ℕ) → xor_offsets s t (scaled s xs) ≡ xor_over s (cell_at s t) xs
unfolding xor_offsets xor_over scaled
over_offsets s t [] = refl
over_offsets s t (x ∷ xs) = ap (xor_l (cell_at s t x)) (over_offsets s t xs)

-- what holds of each cell's offset holds of each offset
pub each_offset : (P : ℕ → Type 0) (s : ℕ) (xs : List ℕ) → ((i : ℕ) → i < length xs → P (get_or xs i 0 * s)) → (i : ℕ) → i < length (scaled s xs) → P (get_or (scaled s xs) i 0)
unfolding scaled
each_offset P s [] f i h = absurd (omega arith)
each_offset P s (x ∷ xs) f zero h = f 0 (omega arith)
each_offset P s (x ∷ xs) f (suc i) h = each_offset P s xs (λ j k. f (suc j) (omega arith)) i (omega arith)

-- cells of a stripe of n cells lie in it
pub cells_reached : (s n long : ℕ) (xs : List ℕ) → all_below n xs ≡ true → n * s ≤ long → length xs ≤ 100 → Reached s long (scaled s xs)
cells_reached s n long xs below fits few =
    record {
      few = omega (arith, length_scaled s xs);
      inside = each_offset (λ a. a + s ≤ long) s xs (λ i h. omega (arith, cell_fits n s (get_or xs i 0) (below_at n i xs below h)));
    }
