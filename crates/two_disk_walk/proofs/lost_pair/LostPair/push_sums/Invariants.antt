-- `push_sums`: each turn appends the two cells of a row. The invariant: what the list holds, with
-- the cells of the rows still to come, are what it held, with the cells of all rows.
use mathlib.Core.Path.{◌≡◌}
use mathlib.Core.List.{◌++◌}
use Prim.Native.Nat.{◌+◌, ◌-◌, ◌*◌, ◌<◌}
use lib.ListN.{length}
use Rattle.liberation.specs.TwoDisksBySums.Sums.{start_steps, cells_of}
use Rattle.stripe_cells.specs.Offsets.{scaled}
use Rattle.two_disk_walk.proofs.lost_pair.LostPair.push_sums.Given as goal

abbrev pub invariant-loop : goal.invariant-loop
invariant-loop l = let g = l.self.geometry in let w = g.array.width in (l.row < w) × (length l.list ≡ length l.initial.list + 2 * l.counter) × (l.list ++ scaled g.cell_size (cells_of (start_steps (l.count - l.counter) w l.self.x l.self.y l.row)) ≡ l.initial.list ++ scaled g.cell_size (cells_of (start_steps l.count w l.self.x l.self.y l.initial.row)))
