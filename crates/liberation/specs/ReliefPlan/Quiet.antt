-- The balanced plan in part-filled arrays: where no accepted plan has a quieter busiest survivor.
use Rattle.std.specs.Prelude.{◌≡◌, true, ◌⊎◌, List, ℕ, ◌+◌, ◌-◌, ◌/◌, ◌≤◌, ◌<◌}
use Rattle.liberation.specs.Sets.{is_width}
use Rattle.liberation.specs.Plans.{Step}
use Rattle.liberation.specs.Judging.{accepted}
use Rattle.liberation.specs.BalancedPlan.Balanced.{reads_of, balanced_plan, fair_share}

-- A part-filled array in which (p - 1)/2 data disks stand before the lost one, or as many after it:
-- no disk gives more than the fair share in the balanced plan, and in every accepted plan some
-- surviving data disk gives that much.
pub record BalancedQuiet (p k f : ℕ) : Type 0 where
  pub balanced_shares : (c : ℕ) → c < k + 2 → reads_of p k f c (balanced_plan p k f) ≤ fair_share p
  pub busiest : (ss : List Step) → accepted p k f ss ≡ true → (c : ℕ) × (c < k) × (c ≡ f → ⊥) × (fair_share p ≤ reads_of p k f c ss)

-- for every width, every number of data disks up to it, every such lost data disk
abbrev pub PlansBalancedQuiet : Type 0
PlansBalancedQuiet = (p k f : ℕ) → is_width p ≡ true → k ≤ p → f < k → ((p - 1) / 2 ≤ f) ⊎ ((p - 1) / 2 + f < k) → BalancedQuiet p k f
