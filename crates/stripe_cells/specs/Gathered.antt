-- What the gather of the odd cells asks and promises, list by list.
use Rattle.std.specs.Prelude.{◌≡◌, false, List, ℕ, ◌*◌, ◌≤◌, ◌<◌, length, get_or}
use Rattle.liberation.specs.Limits.{largest_cell}
use Rattle.stripe_cells.specs.Toggled.{is_odd}

-- what a caller of the gather shows: few and small cells, a stripe that has a cell for every mark,
-- and a destination among them that is not odd
pub record MarkedStripe (s d : ℕ) (ms t : List ℕ) : Type 0 where
  pub few : length ms ≤ 1023
  pub small : s ≤ largest_cell
  pub cells : length ms * s ≤ length t
  pub place : d < length ms
  pub even : is_odd (get_or ms d 0) ≡ false
