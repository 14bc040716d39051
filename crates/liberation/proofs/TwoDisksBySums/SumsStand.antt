-- "After the first cell, a diagonal with three lost cells is used only once two of them stand": so
-- for every set of every step of the walk from sums, which rebuilds two data disks but disk 0.
use mathlib.Core.Path.{◌≡◌, refl, ap, ◌∙◌}
use mathlib.Core.Bool.{Bool, true, false, false≢true}
use mathlib.Core.List.{[], ◌∷◌}
use Prim.Native.Nat.{ℕ, ◌%◌, ◌≤◌, ◌<◌}
use native.Mathlib.Omega.{arith}
use lib.Dec.{eqb, ltb}
use borrow.Author.Tests.{lt-ltb}
use Rattle.mathematics.specs.Choice.{pick}
use Rattle.mathematics.proofs.Primes.{Prime}
use Rattle.liberation.specs.Sets.{is_width}
use Rattle.liberation.proofs.Widths.{width_prime, width_odd}
use Rattle.liberation.specs.TwoDisks.Pairs.{first_cell, forward}
use Rattle.liberation.specs.TwoDisks.PairSteps.{PairPlan, walk_plan, row_parity_steps, diagonal_parity_steps, steps_alone, ordered_plan, steps_stand}
use Rattle.liberation.specs.TwoDisksBySums.Sums.{sum_plan, data_sum_plan}
use Rattle.liberation.proofs.TwoDisks.Roles.{roles_forward, roles_backward}
use Rattle.liberation.proofs.TwoDisks.PairLaws.{pair_stands}
use Rattle.liberation.proofs.TwoDisksBySums.Summing.{sums_order}

-- a plan's steps stand
abbrev plan_stands : ℕ → ℕ → ℕ → ℕ → PairPlan → Type 0
plan_stands p k a b d = steps_stand p k a b d.first d.steps ≡ true

module _ (p k s a b : ℕ) (width : is_width p ≡ true) (most : k ≤ p) (low : 1 ≤ a) (less : a < b) (below : b < k) where
  prime : Prime p
  prime = width_prime p width

  odd : p % 2 ≡ 1
  odd = width_odd p width

  within : b < p
  within = omega arith

  -- of a pair of data disks the steps are those of one of the two walks
  walk_stands : plan_stands p k a b (pick (forward p a b) (walk_plan p k s a b) (walk_plan p k s b a))
  unfolding ordered_plan
  walk_stands = left (ltb a b) (lt-ltb a b less) (ltb b k) (lt-ltb b k below) (pair_stands p k s a b width most (omega arith) (omega arith) (λ e. omega arith))
    where
      left :
          (t : Bool) → t ≡ true → (u : Bool) → u ≡ true
          → plan_stands p k a b (pick t (pick u (pick (forward p a b) (walk_plan p k s a b) (walk_plan p k s b a)) (pick (eqb b k) (steps_alone (row_parity_steps p k a)) (steps_alone (diagonal_parity_steps p k a)))) (ordered_plan p k s b a))
          → plan_stands p k a b (pick (forward p a b) (walk_plan p k s a b) (walk_plan p k s b a))
      left true et true eu h = h
      left true et false eu h = absurd (false≢true eu)
      left false et u eu h = absurd (false≢true et)

  pub sums_stand : steps_stand p k a b (data_sum_plan p k s a b).first (data_sum_plan p k s a b).steps ≡ true
  sums_stand = go (forward p a b) refl walk_stands
    where
      go :
          (f : Bool) → forward p a b ≡ f
          → plan_stands p k a b (pick f (walk_plan p k s a b) (walk_plan p k s b a))
          → plan_stands p k a b (pick f (sum_plan p k s a b) (sum_plan p k s b a))
      go true e h = ap (steps_stand p k a b (first_cell p a b ∷ [])) (sums_order p k s a b prime odd most (roles_forward p a b prime odd less within e) (omega arith) below (omega arith)) ∙ h
      go false e h = ap (steps_stand p k a b (first_cell p b a ∷ [])) (sums_order p k s b a prime odd most (roles_backward p a b prime odd less within e) below (omega arith) low) ∙ h
