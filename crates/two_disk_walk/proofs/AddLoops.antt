-- The loop over the rows of the last steps: the rows still to come, done to the stripe as it is,
-- give what all rows give to the stripe as it was.
use mathlib.Core.Path.{◌≡◌, refl, ap, ap₂, ◌∙◌}
use mathlib.Core.List.{List, ◌∷◌}
use Prim.Native.Nat.{ℕ, zero, suc, ◌+◌, ◌≤◌}
use native.Mathlib.Omega.{arith}
use Rattle.liberation.specs.Sets.{place}
use Rattle.liberation.specs.Plans.{diagonal_of}
use Rattle.liberation.specs.Stripes.Steps.{cell_step}
use Rattle.liberation.specs.TwoDisks.Pairs.{next_row}
use Rattle.liberation.specs.TwoDisks.PairSteps.{walk_steps}
use Rattle.liberation.specs.TwoDisksBySums.Sums.{sum_added, added_all}

module _ (p k s x y : ℕ) where
  -- the diagonal set of row r and the row set of the next row were added
  pub adds_turn :
      (n m r i j : ℕ) (t u v : List ℕ) → n ≡ m + 1 → i ≡ diagonal_of p x r → j ≡ next_row p x y r
      → u ≡ sum_added p k s x y (cell_step (place p j y) 1 i) t
      → v ≡ sum_added p k s x y (cell_step (place p j x) 0 j) u
      → added_all p k s x y (walk_steps m p x y j) v ≡ added_all p k s x y (walk_steps n p x y r) t
  unfolding walk_steps added_all
  adds_turn zero m r i j t u v h ei ej e q = absurd (omega arith)
  adds_turn (suc n) m r i j t u v h ei ej e q =
      let l : m ≡ n = omega arith in
      ap₂ (λ (c : ℕ) (l : List ℕ). added_all p k s x y (walk_steps c p x y j) l) l (q ∙ ap (sum_added p k s x y (cell_step (place p j x) 0 j)) e)
      ∙ ap₂ (λ (b d : ℕ). added_all p k s x y (walk_steps n p x y b) (sum_added p k s x y (cell_step (place p b x) 0 b) (sum_added p k s x y (cell_step (place p b y) 1 d) t))) ej ei

  pub adds_last : (n r : ℕ) (t : List ℕ) → n ≤ 0 → added_all p k s x y (walk_steps n p x y r) t ≡ t
  unfolding walk_steps added_all
  adds_last zero r t h = refl
  adds_last (suc n) r t h = absurd (omega arith)

  -- a row set before them
  pub adds_first : (n r : ℕ) (t u v : List ℕ) → u ≡ sum_added p k s x y (cell_step (place p r x) 0 r) t → v ≡ added_all p k s x y (walk_steps n p x y r) u → v ≡ added_all p k s x y (cell_step (place p r x) 0 r ∷ walk_steps n p x y r) t
  unfolding added_all
  adds_first n r t u v e q = q ∙ ap (added_all p k s x y (walk_steps n p x y r)) e
