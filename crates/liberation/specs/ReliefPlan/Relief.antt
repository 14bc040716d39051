-- Progression plans for a lost data disk f: the rows that take a diagonal are a + g, a + 2g, .. a +
-- hg mod p, where 2a + 1 = f mod p and h = (p - 1)/2. The step g, from 1 to p - 1, is free:
-- every such plan reads as few cells as ours in a full array, and a disk that is x steps of g from
-- f is relieved min(x, p - x) of its p cells.
-- The relief plan is the one with step 2(c - f): disk c is then (p + 1)/2 steps from f, so it is
-- relieved as much as any plan can relieve it.
use Rattle.std.specs.Prelude.{◌≡◌, Bool, true, false, ◌||◌, List, [], ◌∷◌, ◌++◌, ℕ, zero, suc, ◌+◌, ◌-◌, ◌*◌, ◌/◌, ◌%◌, ◌≤◌, ◌<◌, eqb, ltb, leb}
use Rattle.mathematics.specs.Choice.{pick}
use Rattle.mathematics.specs.Sums.{sum_to}
use Rattle.liberation.specs.Sets.{is_width}
use Rattle.liberation.specs.Plans.{Step, second_row, row_steps, diagonal_steps, all_of, plan_of, read_count}
use Rattle.liberation.specs.Judging.{accepted}
use Rattle.liberation.specs.Claims.{is_best}
use Rattle.liberation.specs.BalancedPlan.Balanced.{reads_of}

-- j is a + g x mod p for an x from 1 to n
unfoldable pub in_steps : ℕ → ℕ → ℕ → ℕ → ℕ → Bool
in_steps zero p a g j = false
in_steps (suc n) p a g j = eqb j ((a + g * suc n) % p) || in_steps n p a g j

-- the routes of m rows from j on: 2 for a diagonal, in the rows that n steps of g from row a come
-- to, 1 for a row set
unfoldable pub step_routes : ℕ → ℕ → ℕ → ℕ → ℕ → ℕ → List ℕ
step_routes zero n p a g j = []
step_routes (suc m) n p a g j = pick (in_steps n p a g j) 2 1 ∷ step_routes m n p a g (suc j)

-- a: the half of f - 1 mod p
abbrev pub start_row : ℕ → ℕ → ℕ
start_row p f = second_row p ((f + p - 1) % p)

-- the routes of all rows, for step g
abbrev pub progression_routes : ℕ → ℕ → ℕ → List ℕ
progression_routes p f g = step_routes p ((p - 1) / 2) p (start_row p f) g 0

-- the progression plan with step g: row-set steps first, rows upward, then diagonal steps, rows
-- upward; for P (disk k) and Q (disk k + 1) it is ours
unfoldable pub progression_plan : ℕ → ℕ → ℕ → ℕ → List Step
progression_plan p k f g = pick (ltb f k) (row_steps 0 (progression_routes p f g) ++ diagonal_steps p f 0 (progression_routes p f g)) (all_of p (f - k) 0)

-- the step that relieves disk c: 2(c - f) mod p
abbrev pub relief_step : ℕ → ℕ → ℕ → ℕ
relief_step p f c = 2 * (c + p - f) % p

-- the routes that relieve disk c
abbrev pub relief_routes : ℕ → ℕ → ℕ → List ℕ
relief_routes p f c = progression_routes p f (relief_step p f c)

-- the plan that relieves disk c
abbrev pub relief_plan : ℕ → ℕ → ℕ → ℕ → List Step
relief_plan p k f c = progression_plan p k f (relief_step p f c)

-- how far x, below p, is from 0 mod p: the lesser of x and p - x
abbrev pub distance : ℕ → ℕ → ℕ
distance p x = pick (leb x (p - x)) x (p - x)

-- What is claimed of the progression plan with step g for lost data disk f, in an array with k data
-- disks: it is accepted, and what each disk gives and what is read in all is told beforehand, r
-- being the inverse of g.
-- In a full array no accepted plan reads less.
pub record Progression (p k f g : ℕ) : Type 0 where
  pub is_accepted : accepted p k f (progression_plan p k f g) ≡ true
  pub data_share : (c x : ℕ) → c < k → (c ≡ f → ⊥) → x < p → (f + g * x) % p ≡ c → reads_of p k f c (progression_plan p k f g) + distance p x ≡ p
  pub P-share : reads_of p k f k (progression_plan p k f g) ≡ (p + 1) / 2
  pub Q-share : reads_of p k f (suc k) (progression_plan p k f g) ≡ (p - 1) / 2
  pub count : (r : ℕ) → g * r % p ≡ 1 → read_count p k f (progression_plan p k f g) + sum_to k (λ c. distance p (r * (c + p - f) % p)) ≡ k * p
  pub full_best : k ≡ p → is_best p k f (progression_plan p k f g) ≡ true
  pub full_count : k ≡ p → 4 * read_count p k f (progression_plan p k f g) ≡ 3 * (p * p) + 1
  pub full_least : k ≡ p → (ss : List Step) → accepted p k f ss ≡ true → read_count p k f (progression_plan p k f g) ≤ read_count p k f ss

-- for every width, every number of data disks up to it, every lost data disk, every step
abbrev pub PlansProgression : Type 0
PlansProgression = (p k f g : ℕ) → is_width p ≡ true → k ≤ p → f < k → 0 < g → g < p → Progression p k f g

-- and for a lost P or Q it is our plan
abbrev pub ParityOurs : Type 0
ParityOurs = (p k f g : ℕ) → k ≤ f → progression_plan p k f g ≡ plan_of p k f

-- What is claimed of the plan that relieves data disk c while data disk f is lost: it is accepted,
-- asks (p + 1)/2 cells of disk c, and no accepted plan asks less of it; and in a full array no
-- accepted plan reads less in all.
pub record Relief (p k f c : ℕ) : Type 0 where
  pub is_accepted : accepted p k f (relief_plan p k f c) ≡ true
  pub relieved : 2 * reads_of p k f c (relief_plan p k f c) ≡ p + 1
  pub relieved_most : (ss : List Step) → accepted p k f ss ≡ true → reads_of p k f c (relief_plan p k f c) ≤ reads_of p k f c ss
  pub full_count : k ≡ p → 4 * read_count p k f (relief_plan p k f c) ≡ 3 * (p * p) + 1
  pub full_least : k ≡ p → (ss : List Step) → accepted p k f ss ≡ true → read_count p k f (relief_plan p k f c) ≤ read_count p k f ss

-- for every width, every number of data disks up to it, every lost data disk, every other data disk
abbrev pub PlansRelief : Type 0
PlansRelief = (p k f c : ℕ) → is_width p ≡ true → k ≤ p → f < k → c < k → (c ≡ f → ⊥) → Relief p k f c

-- whatever disk is lost, every accepted plan asks (p + 1)/2 cells at least of every surviving data
-- disk
abbrev pub HalfAsked : Type 0
HalfAsked = (p k f c : ℕ) (ss : List Step) → is_width p ≡ true → k ≤ p → f ≤ k + 1 → c < k → (c ≡ f → ⊥) → accepted p k f ss ≡ true → p + 1 ≤ 2 * reads_of p k f c ss

-- An array with p - 1 data disks: the progression plan with step f + 1 reads (3p² - 4p + 5)/4
-- cells, and no accepted plan reads less.
pub record OneShort (p f : ℕ) : Type 0 where
  pub is_accepted : accepted p (p - 1) f (progression_plan p (p - 1) f (f + 1)) ≡ true
  pub count : 4 * read_count p (p - 1) f (progression_plan p (p - 1) f (f + 1)) + 4 * p ≡ 3 * (p * p) + 5
  pub least : (ss : List Step) → accepted p (p - 1) f ss ≡ true → read_count p (p - 1) f (progression_plan p (p - 1) f (f + 1)) ≤ read_count p (p - 1) f ss

-- for every width and every lost data disk
abbrev pub PlansOneShort : Type 0
PlansOneShort = (p f : ℕ) → is_width p ≡ true → f < p - 1 → OneShort p f
