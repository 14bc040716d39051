-- A step of a plan as the judge reads it, and the rows that are rebuilt before it.
use Rattle.std.specs.Prelude.{◌≡◌, Bool, false, ◌||◌, not, List, ℕ, ◌<◌, eqb, leb, ltb, get_or}
use Rattle.mathematics.specs.Lists.{is_in}
use Rattle.liberation.specs.Sets.{disk_at, row_at}
use Rattle.liberation.specs.Plans.{Step as PlanStep, step}
use Rattle.parity_sets.specs.ParitySets.{kind_of, number_of}
use Rattle.judge.specs.declared.one_step.Step.{Step}

-- the step as the definitions have it
abbrev pub step_of : Step → PlanStep
step_of s = step s.row (kind_of s.set) (number_of s.set)

-- the step of three bytes: row, kind, number
abbrev pub bytes_step : List ℕ → PlanStep
bytes_step bs = step (get_or bs 0 0) (get_or bs 1 0) (get_or bs 2 0)

-- 6: "row or set number p or more, or kind over 1"
abbrev pub is_out_of_range : ℕ → PlanStep → Bool
is_out_of_range p s = leb p s.row || (leb p s.number || ltb 1 s.kind)

-- neither row nor set number is p or more
pub record IsWithin (p : ℕ) (s : Step) : Type 0 where
  pub row : s.row < p
  pub number : number_of s.set < p

-- the flags `rebuilt` are those of the rows ds
abbrev pub AreRebuilt : List Bool → List ℕ → Type 0
AreRebuilt rebuilt ds = (r : ℕ) → r < 31 → get_or rebuilt r false ≡ is_in r ds

-- cell x is on another disk than f, in row r, or in a row that is rebuilt
abbrev pub is_there : ℕ → ℕ → ℕ → List Bool → ℕ → Bool
is_there p f r rebuilt x = not (eqb (disk_at p x) f) || (eqb (row_at p x) r || get_or rebuilt (row_at p x) false)
