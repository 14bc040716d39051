-- `next`: the cell at the place that is next, and the list from there on loses it. A set has at most
-- 33 cells.
use Rattle.std.proofs.Common.{arith}
use Rattle.liberation.proofs.SetSizes.{size_most}
use Rattle.parity_sets.specs.ParitySets.{kind_of, number_of}
use Rattle.parity_sets.proofs.set.CellsIterator.next.Goals as goal

pub overflow_add-self : goal.overflow_add-self
overflow_add-self c = let s = c.args.self.now in omega (arith, c.in_ok-cell.ensures.0, size_most s.array.width s.array.disks (kind_of s.set) (number_of s.set))
