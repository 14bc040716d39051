-- The loop over rows: the rows still to come, summed in the stripe as it is, give what all rows
-- give in the stripe as it was.
use mathlib.Core.Path.{◌≡◌, refl, ap, ap₂, ◌∙◌}
use mathlib.Core.List.{List}
use Prim.Native.Nat.{ℕ, zero, suc, ◌+◌, ◌≤◌}
use native.Mathlib.Omega.{arith}
use Rattle.liberation.specs.Sets.{place}
use Rattle.liberation.specs.Plans.{diagonal_of}
use Rattle.liberation.specs.Stripes.Steps.{cell_step}
use Rattle.liberation.specs.TwoDisks.Pairs.{next_row}
use Rattle.liberation.specs.TwoDisksBySums.Sums.{summed, summed_all, start_steps}

module _ (p k s x y : ℕ) where
  -- the row set and the diagonal set of row r were summed, which made v of t
  pub sums_turn :
      (n m r i j : ℕ) (t u v : List ℕ) → n ≡ m + 1 → i ≡ diagonal_of p x r → j ≡ next_row p x y r
      → u ≡ summed p k s x y (cell_step (place p r x) 0 r) t
      → v ≡ summed p k s x y (cell_step (place p j y) 1 i) u
      → summed_all p k s x y (start_steps m p x y j) v ≡ summed_all p k s x y (start_steps n p x y r) t
  unfolding start_steps summed_all
  sums_turn zero m r i j t u v h ei ej e q = absurd (omega arith)
  sums_turn (suc n) m r i j t u v h ei ej e q =
      let l : m ≡ n = omega arith in
      ap₂ (λ (c : ℕ) (l : List ℕ). summed_all p k s x y (start_steps c p x y j) l) l (q ∙ ap (summed p k s x y (cell_step (place p j y) 1 i)) e)
      ∙ ap₂ (λ (b d : ℕ). summed_all p k s x y (start_steps n p x y b) (summed p k s x y (cell_step (place p b y) 1 d) (summed p k s x y (cell_step (place p r x) 0 r) t))) ej ei

  pub sums_last : (n r : ℕ) (t : List ℕ) → n ≤ 0 → summed_all p k s x y (start_steps n p x y r) t ≡ t
  unfolding start_steps summed_all
  sums_last zero r t h = refl
  sums_last (suc n) r t h = absurd (omega arith)
