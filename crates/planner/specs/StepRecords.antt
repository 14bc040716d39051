-- A plan's steps in the three arrays of a record.
use Rattle.std.specs.Prelude.{◌≡◌, List, ℕ, length}
use Rattle.liberation.specs.Plans.{Step}
use Rattle.liberation.specs.Records.{rows_of, kinds_of, numbers_of, padded, recorded}
use Rattle.planner.specs.declared.records.Steps.{Steps}

-- the steps ss, held in three arrays
pub record Holds (ss : List Step) (s : Steps) : Type 0 where
  pub rows : s.rows ≡ padded (rows_of ss)
  pub kinds : s.kinds ≡ padded (kinds_of ss)
  pub numbers : s.numbers ≡ padded (numbers_of ss)

-- the same of arrays that a loop fills, with the number of steps
pub record Counts (ss : List Step) (rs ks ns : List ℕ) (n : ℕ) : Type 0 where
  pub rows : rs ≡ padded (rows_of ss)
  pub kinds : ks ≡ padded (kinds_of ss)
  pub numbers : ns ≡ padded (numbers_of ss)
  pub count : n ≡ length ss

-- the p steps of a record, whatever they are
abbrev pub held : ℕ → Steps → List Step
held p s = recorded p 0 s.rows s.kinds s.numbers
