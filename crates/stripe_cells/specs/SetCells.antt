-- The extra cell of a set, if the set has one.
use Rattle.std.specs.Prelude.{List, [], ◌∷◌, ℕ, eqb}
use Rattle.mathematics.specs.Choice.{pick}
use Rattle.liberation.specs.Sets.{has_extra, extra_of}

abbrev pub extra_in : ℕ → ℕ → ℕ → ℕ → List ℕ
extra_in p k kind i = pick (eqb kind 0) [] (pick (has_extra p k i) (extra_of p i ∷ []) [])
