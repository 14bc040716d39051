-- `add_sets`: each turn adds the next row set and the next diagonal set. The invariant: of each
-- kind, as many sets as turns have the group added.
use Rattle.std.proofs.Common.{◌≡◌, length}
use Rattle.encode.specs.Added.{SetsAdded}
use Rattle.encode.proofs.sums.add_sets.Given as goal

abbrev pub invariant-loop-j : goal.invariant-loop-j
invariant-loop-j l =
    let w = l.group.geometry in
    (length l.stripe ≡ length l.initial.stripe) × SetsAdded w.array.width w.array.disks w.cell_size l.group.first l.group.end l.row l.number l.j l.initial.stripe l.stripe
