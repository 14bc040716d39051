-- `encode_groups`: each turn adds the next group to all parity cells. The invariant: they hold the
-- sums over the data disks before `first`, and data cells are unchanged. After the last group every
-- set is clean.
use Rattle.std.proofs.Common.{◌≡◌, true, ◌-◌, ◌≤◌, length}
use Rattle.mathematics.specs.Xor.{all_bytes}
use Rattle.encode.proofs.GroupLoops.{Summed}
use Rattle.encode.proofs.groups.encode_groups.Given as goal

abbrev pub invariant-loop-first : goal.invariant-loop-first
invariant-loop-first l =
    let w = l.geometry in
    (l.first ≤ w.array.disks) × (length l.stripe ≡ length l.initial.stripe) × (all_bytes l.stripe ≡ true) × Summed w.array.width w.array.disks w.cell_size l.first l.initial.stripe l.stripe

abbrev pub decreases-loop-first : goal.decreases-loop-first
decreases-loop-first l = l.geometry.array.disks - l.first
