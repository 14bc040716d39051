-- Steps over cells: each writes one cell as the XOR of the others of a set. A plan's steps for a
-- lost disk are such, and those for two lost disks.
use Rattle.std.specs.Prelude.{Bool, ◌||◌, not, List, [], ◌∷◌, ℕ}
use Rattle.mathematics.specs.Lists.{is_in}
use Rattle.liberation.specs.Sets.{place, set_of}
use Rattle.liberation.specs.Plans.{Step}
use Rattle.liberation.specs.Stripes.Stripes.{solved}

-- the cell that a step writes, by its place, and the kind and number of its set
pub record CellStep : Type 0 where
  pub cell : ℕ
  pub kind : ℕ
  pub number : ℕ

abbrev pub cell_step : ℕ → ℕ → ℕ → CellStep
cell_step x t n = record { cell = x; kind = t; number = n }

-- the steps, done in order on a stripe
unfoldable pub steps_done : ℕ → ℕ → ℕ → List CellStep → List ℕ → List ℕ
steps_done p k s [] t = t
steps_done p k s (c ∷ cs) t = steps_done p k s cs (solved s c.cell (set_of p k c.kind c.number) t)

-- a plan's steps for disk f
unfoldable pub on_disk : ℕ → ℕ → List Step → List CellStep
on_disk p f [] = []
on_disk p f (st ∷ ss) = cell_step (place p st.row f) st.kind st.number ∷ on_disk p f ss

-- a cell is known: it survives, or it stands, being one of the cells written before
abbrev pub known : (ℕ → Bool) → List ℕ → ℕ → Bool
known lost done x = not (lost x) || is_in x done
