-- What the library promises of the printed text.
use Rattle.std.specs.Prelude.{◌≡◌, List, ◌++◌, ℕ, ◌-◌, length, replicate}
use Rattle.printed_plan.specs.declared.Text.{Text}
use Rattle.printed_plan.specs.Text.{printed}

-- the record holds the text t, and zeros after it
pub record TextIs (t : List ℕ) (r : Text) : Type 0 where
  pub size : r.length ≡ length t
  pub bytes : r.bytes ≡ t ++ replicate (458 - length t) 0

-- the whole output for the whole input t
abbrev pub TextSays : List ℕ → Text → Type 0
TextSays t r = TextIs (printed t) r
