-- The fewest plan for a lost data disk f of an array with k data disks. Of the progression plans
-- take the one that relieves the data disks most, the first of several; where ours reads fewer
-- cells than that, take ours, and where the balanced plan reads fewer still, that one.
-- By a search over all ten widths neither ever does; here it is by definition that none reads less.
use Rattle.std.specs.Prelude.{◌≡◌, true, List, ℕ, ◌+◌, ◌-◌, ◌*◌, ◌/◌, ◌%◌, ◌≤◌, ◌<◌, ltb}
use Rattle.mathematics.specs.Choice.{pick, when}
use Rattle.mathematics.specs.Sums.{sum_to}
use Rattle.liberation.specs.Sets.{is_width}
use Rattle.liberation.specs.Plans.{Step, routes, steps_by, plan_by, plan_of, read_count}
use Rattle.liberation.specs.Judging.{accepted}
use Rattle.liberation.specs.BalancedPlan.Balanced.{balanced_routes, balanced_plan}
use Rattle.liberation.specs.ReliefPlan.Relief.{progression_routes, progression_plan, relief_plan, distance}
use Rattle.liberation.specs.FewestPlan.Greatest.{first_most}

-- how many cells the progression plan with step g leaves unread on the k data disks: disk f + gx
-- mod p, if there is one, is relieved of min(x, p - x)
unfoldable pub relieved_by : ℕ → ℕ → ℕ → ℕ → ℕ
relieved_by p k f g = sum_to p (λ x. when (ltb ((f + g * x) % p) k) (distance p x))

-- the first of the steps 1 to (p - 1)/2 that relieves them most; p - g does as g does
unfoldable pub fewest_step : ℕ → ℕ → ℕ → ℕ
fewest_step p k f = first_most ((p - 1) / 2 - 1) (relieved_by p k f)

-- what a data disk's plan with the routes rs reads
abbrev pub reads_by : ℕ → ℕ → ℕ → List ℕ → ℕ
reads_by p k f rs = read_count p k f (steps_by p f rs)

-- the routes b if their plan reads fewer cells than that of a, else a
unfoldable pub fewer : ℕ → ℕ → ℕ → List ℕ → List ℕ → List ℕ
fewer p k f a b = pick (ltb (reads_by p k f b) (reads_by p k f a)) b a

-- the routes of all rows
unfoldable pub fewest_routes : ℕ → ℕ → ℕ → List ℕ
fewest_routes p k f = fewer p k f (fewer p k f (progression_routes p f (fewest_step p k f)) (routes p f)) (balanced_routes p f)

-- the fewest plan: row-set steps first, rows upward, then diagonal steps, rows upward; for P (disk
-- k) and Q (disk k + 1) it is ours
unfoldable pub fewest_plan : ℕ → ℕ → ℕ → List Step
fewest_plan p k f = plan_by p k f (fewest_routes p k f)

-- What is claimed of the step: its progression plan reads kp less what it relieves, and no step
-- relieves the data disks more.
pub record FewestStep (p k f : ℕ) : Type 0 where
  pub low : 0 < fewest_step p k f
  pub high : fewest_step p k f ≤ (p - 1) / 2
  pub relieves : (g r : ℕ) → 0 < g → g < p → g * r % p ≡ 1 → relieved_by p k f g ≡ sum_to k (λ c. distance p (r * (c + p - f) % p))
  pub count : (g : ℕ) → 0 < g → g < p → read_count p k f (progression_plan p k f g) + relieved_by p k f g ≡ k * p
  pub most : (g : ℕ) → 0 < g → g < p → relieved_by p k f g ≤ relieved_by p k f (fewest_step p k f)
  pub mean : (k - 1) * (p + 1) ≤ 4 * relieved_by p k f (fewest_step p k f)

-- What is claimed of the plan for lost data disk f: it is accepted; no progression plan, so no
-- relief plan, reads less, nor does ours or the balanced plan, and where these two do not read less
-- than the progression plan it is that one; it reads at most kp - (k - 1)(p + 1)/4 cells.
-- With p data disks, with p - 1 and with 2 no accepted plan reads less: (3p² + 1)/4 cells, (3p² -
-- 4p + 5)/4 and (3p + 1)/2.
pub record Fewest (p k f : ℕ) : Type 0 where
  pub is_accepted : accepted p k f (fewest_plan p k f) ≡ true
  pub step : FewestStep p k f
  pub count : read_count p k f (fewest_plan p k f) + relieved_by p k f (fewest_step p k f) ≤ k * p
  pub alike : read_count p k f (progression_plan p k f (fewest_step p k f)) ≤ read_count p k f (plan_of p k f) → read_count p k f (progression_plan p k f (fewest_step p k f)) ≤ read_count p k f (balanced_plan p k f) → fewest_plan p k f ≡ progression_plan p k f (fewest_step p k f)
  pub mean : 4 * read_count p k f (fewest_plan p k f) + (k - 1) * (p + 1) ≤ 4 * (k * p)
  pub progressions : (g : ℕ) → 0 < g → g < p → read_count p k f (fewest_plan p k f) ≤ read_count p k f (progression_plan p k f g)
  pub reliefs : (c : ℕ) → c < k → (c ≡ f → ⊥) → read_count p k f (fewest_plan p k f) ≤ read_count p k f (relief_plan p k f c)
  pub ours : read_count p k f (fewest_plan p k f) ≤ read_count p k f (plan_of p k f)
  pub balanced : read_count p k f (fewest_plan p k f) ≤ read_count p k f (balanced_plan p k f)
  pub full_count : k ≡ p → 4 * read_count p k f (fewest_plan p k f) ≡ 3 * (p * p) + 1
  pub full_least : k ≡ p → (ss : List Step) → accepted p k f ss ≡ true → read_count p k f (fewest_plan p k f) ≤ read_count p k f ss
  pub short_count : k ≡ p - 1 → 4 * read_count p k f (fewest_plan p k f) + 4 * p ≡ 3 * (p * p) + 5
  pub short_least : k ≡ p - 1 → (ss : List Step) → accepted p k f ss ≡ true → read_count p k f (fewest_plan p k f) ≤ read_count p k f ss
  pub pair_count : k ≡ 2 → 2 * read_count p k f (fewest_plan p k f) ≡ 3 * p + 1
  pub pair_least : k ≡ 2 → (ss : List Step) → accepted p k f ss ≡ true → read_count p k f (fewest_plan p k f) ≤ read_count p k f ss

-- for every width, every number of data disks up to it, every lost data disk
abbrev pub PlansFewest : Type 0
PlansFewest = (p k f : ℕ) → is_width p ≡ true → k ≤ p → f < k → Fewest p k f

-- and for a lost P or Q it is our plan
abbrev pub FewestParity : Type 0
FewestParity = (p k f : ℕ) → k ≤ f → fewest_plan p k f ≡ plan_of p k f
