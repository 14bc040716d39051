-- `add_set`: the parity cell, but in the first group, the set's cells of the group and its extra cell,
-- if it is there, are listed, and their XOR is put at the parity cell.
use mathlib.Core.Path.{ap}
use Prim.Native.Nat.{ℕ, ◌*◌}
use native.Mathlib.Omega.{arith}
use Rattle.parity_sets.specs.ParitySets.{kind_of, number_of}
use Rattle.encode.proofs.GroupLists.{sources_listed, sources_few, group_beside, group_added}
use Rattle.encode.proofs.sets.add_set.Goals as goal

pub push_extra-requires-clause-room : goal.push_extra-requires-clause-room
push_extra-requires-clause-room c =
    let a = c.args in
    let w = a.group.geometry in
    omega (arith, sources_few w.array.width w.array.disks w.cell_size a.group.first a.group.end (kind_of a.set) (number_of a.set) _ _ _ (omega arith) c.start_list.ensures c.push_on.ensures)

pub gather_within-requires : goal.gather_within-requires
gather_within-requires c =
    let a = c.args in
    let w = a.group.geometry in
    let to = ap (λ (x : ℕ). x * w.cell_size) c.parity_cell.ensures.0 in
    let e = sources_listed w.array.width w.array.disks w.cell_size a.group.first a.group.end (kind_of a.set) (number_of a.set) _ _ _ (c.parity_cell.result * w.cell_size) to c.start_list.ensures c.push_on.ensures c.push_extra.ensures in
    rw (c.as_slice.ensures.0, to) (group_beside w.array.width w.array.disks w.cell_size a.group.first a.group.end (kind_of a.set) (number_of a.set) c.push_extra.new.list a.stripe.now c.requires.numbered (omega arith) a.group.last c.as_slice.ensures.1 c.requires.stripe_len e)

pub returns : goal.returns
returns c =
    let a = c.args in
    let w = a.group.geometry in
    let to = ap (λ (x : ℕ). x * w.cell_size) c.parity_cell.ensures.0 in
    let e = sources_listed w.array.width w.array.disks w.cell_size a.group.first a.group.end (kind_of a.set) (number_of a.set) _ _ _ (c.parity_cell.result * w.cell_size) to c.start_list.ensures c.push_on.ensures c.push_extra.ensures in
    group_added w.array.width w.array.disks w.cell_size a.group.first a.group.end (kind_of a.set) (number_of a.set) c.push_extra.new.list a.stripe.now c.requires.numbered (omega arith) a.group.last c.as_slice.ensures.1 c.requires.stripe_len e c.gather_within.new.t (rw (c.as_slice.ensures.0, to) at c.gather_within.ensures)
