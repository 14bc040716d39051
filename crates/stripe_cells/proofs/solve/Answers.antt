-- `solve`: the other cells of the set are listed, and their XOR is put at the cell, apart from which
-- they lie.
use mathlib.Core.Path.{ap}
use Prim.Native.Nat.{◌+◌, ◌*◌, ◌≤◌}
use native.Mathlib.Nat.{mul-le-mul}
use native.Mathlib.Omega.{arith}
use lib.ListN.{length}
use Rattle.liberation.specs.Sets.{place}
use Rattle.xor_in_place.specs.Beside.{Apart}
use Rattle.parity_sets.specs.ParitySets.{kind_of, number_of}
use Rattle.stripe_cells.proofs.OrdinaryLaws.{own_disk}
use Rattle.stripe_cells.proofs.SolvedLaws.{from_none, others_lie, others_put}
use Rattle.stripe_cells.proofs.solve.Goals as goal

pub push_others-requires : goal.push_others-requires
push_others-requires c =
    let a = c.args in
    let d = own_disk a.geometry.array.width a.geometry.array.disks (kind_of a.set) (number_of a.set) a.disk a.row c.requires.ordinary in
    (omega arith, ((c.requires.ordinary.numbered, omega arith), omega (arith, ap length c.clear.ensures)))

pub overflow_mul-to : goal.overflow_mul-to
overflow_mul-to c =
    let a = c.args in
    let d = own_disk a.geometry.array.width a.geometry.array.disks (kind_of a.set) (number_of a.set) a.disk a.row c.requires.ordinary in
    let h : a.disk ≤ 32 = omega arith in
    omega (arith, mul-le-mul h a.geometry.array.widest)

pub overflow_add-to : goal.overflow_add-to
overflow_add-to c =
    let a = c.args in
    let d = own_disk a.geometry.array.width a.geometry.array.disks (kind_of a.set) (number_of a.set) a.disk a.row c.requires.ordinary in
    let h : a.disk ≤ 32 = omega arith in
    omega (arith, mul-le-mul h a.geometry.array.widest)

-- the other cells lie apart
lie : (c : goal.After-gather-arg-2-1) → let a = c.args in Apart (place a.geometry.array.width a.row a.disk * a.geometry.cell_size) a.geometry.cell_size (length a.stripe.now) c.push_others.new.self
lie c =
    let a = c.args in
    others_lie a.geometry.array.width a.geometry.array.disks (kind_of a.set) (number_of a.set) a.disk a.row c.requires.ordinary a.geometry.cell_size c.push_others.new.self a.stripe.now c.requires.stripe_len (from_none _ _ _ c.clear.ensures c.push_others.ensures) (omega arith)

pub overflow_mul-to-2 : goal.overflow_mul-to-2
overflow_mul-to-2 c =
    let a = c.args in
    let d = own_disk a.geometry.array.width a.geometry.array.disks (kind_of a.set) (number_of a.set) a.disk a.row c.requires.ordinary in
    let l : a.disk ≤ 32 = omega arith in
    let h : a.disk * a.geometry.array.width + a.row ≤ 1023 = omega (arith, mul-le-mul l a.geometry.array.widest, c.requires.ordinary.row) in
    omega (arith, mul-le-mul h a.geometry.small)

pub gather-requires : goal.gather-requires
gather-requires c = (omega arith, lie c)

pub returns : goal.returns
returns c =
    let a = c.args in
    others_put a.geometry.array.width a.geometry.array.disks (kind_of a.set) (number_of a.set) a.disk a.row c.requires.ordinary a.geometry.cell_size c.push_others.new.self a.stripe.now c.requires.stripe_len (from_none _ _ _ c.clear.ensures c.push_others.ensures) c.gather.new.stripe c.gather.ensures
