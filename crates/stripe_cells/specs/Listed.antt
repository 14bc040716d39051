-- The offsets of the odd places, pushed to a list.
use Rattle.std.specs.Prelude.{List, ℕ, drop}
use Rattle.stripe_cells.specs.Offsets.{scaled}
use Rattle.stripe_cells.specs.Toggled.{odd_from}

-- the offsets of the odd places from place x on, of cells of s bytes
abbrev pub odd_offsets : ℕ → List ℕ → ℕ → List ℕ
odd_offsets s ms x = scaled s (odd_from x (drop x ms))
