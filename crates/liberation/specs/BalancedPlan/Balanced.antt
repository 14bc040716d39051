-- The balanced plan: a plan for one lost disk that, in a full array, reads as few cells as ours,
-- spread over the survivors so that the busiest gives no more than the busiest of any accepted plan.
-- For a lost data disk f, row j takes a diagonal exactly if j - a is a square mod p, where 2a + 1 +
-- e = f mod p, e being 1 if -1 is a square, else 0.
use Rattle.std.specs.Prelude.{◌≡◌, Bool, true, List, [], ◌∷◌, ◌++◌, ℕ, zero, suc, ◌+◌, ◌-◌, ◌*◌, ◌/◌, ◌%◌, ◌≤◌, ◌<◌, ltb}
use Rattle.mathematics.specs.Choice.{pick, when}
use Rattle.mathematics.specs.Lists.{is_in}
use Rattle.mathematics.specs.Sums.{sum_to}
use Rattle.liberation.specs.Sets.{is_width, place}
use Rattle.liberation.specs.Plans.{Step, second_row, row_steps, diagonal_steps, all_of, plan_of, cells_read, read_count}
use Rattle.liberation.specs.Judging.{accepted}
use Rattle.liberation.specs.Claims.{is_best}
use Rattle.liberation.specs.BalancedPlan.Squares.{is_square}

-- e: 1 if -1 is a square mod p, else 0
abbrev pub minus_square : ℕ → ℕ
minus_square p = when (is_square p (p - 1)) 1

-- a: the half of f - 1 - e mod p
abbrev pub balanced_start : ℕ → ℕ → ℕ
balanced_start p f = second_row p ((f + p - 1 - minus_square p) % p)

-- row j takes a diagonal
unfoldable pub by_diagonal : ℕ → ℕ → ℕ → Bool
by_diagonal p f j = is_square p ((j + p - balanced_start p f) % p)

-- the routes of n rows from j on: 2 for a diagonal, 1 for a row set
unfoldable pub balanced_from : ℕ → ℕ → ℕ → ℕ → List ℕ
balanced_from zero p f j = []
balanced_from (suc n) p f j = pick (by_diagonal p f j) 2 1 ∷ balanced_from n p f (suc j)

-- the routes of all rows
abbrev pub balanced_routes : ℕ → ℕ → List ℕ
balanced_routes p f = balanced_from p p f 0

-- the balanced plan: row-set steps first, rows upward, then diagonal steps, rows upward; for P
-- (disk k) and Q (disk k + 1) it is ours
unfoldable pub balanced_plan : ℕ → ℕ → ℕ → List Step
balanced_plan p k f = pick (ltb f k) (row_steps 0 (balanced_routes p f) ++ diagonal_steps p f 0 (balanced_routes p f)) (all_of p (f - k) 0)

-- how many cells of disk c the steps read
unfoldable pub reads_of : ℕ → ℕ → ℕ → ℕ → List Step → ℕ
reads_of p k f c ss = sum_to p (λ r. when (is_in (place p r c) (cells_read p k f ss)) 1)

-- (3p - 1)/4 rounded up: what the busiest surviving data disk gives at least
abbrev pub fair_share : ℕ → ℕ
fair_share p = (p + 1) / 2 + (p - 1) / 4

-- what is claimed of the balanced plan for lost data disk f, k = p: it is one of the best, no disk
-- gives more than the fair share, two surviving data disks differ by one cell at most, and in every
-- accepted plan some surviving data disk gives the fair share
pub record Balanced (p f : ℕ) : Type 0 where
  pub balanced_accepted : accepted p p f (balanced_plan p p f) ≡ true
  pub balanced_best : is_best p p f (balanced_plan p p f) ≡ true
  pub balanced_count : 4 * read_count p p f (balanced_plan p p f) ≡ 3 * (p * p) + 1
  pub balanced_shares : (c : ℕ) → c < p + 2 → reads_of p p f c (balanced_plan p p f) ≤ fair_share p
  pub evenly : (c d : ℕ) → c < p → d < p → (c ≡ f → ⊥) → (d ≡ f → ⊥) → reads_of p p f c (balanced_plan p p f) ≤ reads_of p p f d (balanced_plan p p f) + 1
  pub busiest : (ss : List Step) → accepted p p f ss ≡ true → (c : ℕ) × (c < p) × (c ≡ f → ⊥) × (fair_share p ≤ reads_of p p f c ss)

-- for every width and every lost data disk
abbrev pub PlansBalanced : Type 0
PlansBalanced = (p f : ℕ) → is_width p ≡ true → f < p → Balanced p f

-- in an array with k data disks it is accepted, no disk gives more than the fair share of the full
-- array, and for a lost P or Q it is our plan
pub record BalancedPart (p k f : ℕ) : Type 0 where
  pub balanced_accepted : accepted p k f (balanced_plan p k f) ≡ true
  pub balanced_shares : f < k → (c : ℕ) → c < k + 2 → reads_of p k f c (balanced_plan p k f) ≤ fair_share p
  pub parity : k ≤ f → balanced_plan p k f ≡ plan_of p k f

-- for every width, every number of data disks up to it, every lost disk
abbrev pub PlansBalancedPart : Type 0
PlansBalancedPart = (p k f : ℕ) → is_width p ≡ true → k ≤ p → f ≤ k + 1 → BalancedPart p k f
