-- `diagonal_is_clean`: all cells of the set are listed, and their XOR is tested.
use native.Mathlib.Omega.{arith}
use Rattle.scrub.proofs.CheckLaws.{set_fits, set_reached, set_tested}
use Rattle.scrub.proofs.clean.diagonal_is_clean.Goals as goal

pub is_zero-requires : goal.is_zero-requires
is_zero-requires c =
    let a = c.args in
    let w = a.geometry in
    (set_fits w.array.width w.array.disks w.cell_size 1 a.number c.none.result.low c.none.result.high c.clear.new.self c.push_surviving.new.self a.stripe.now c.requires.1 (omega arith) c.none.ensures c.clear.ensures c.push_surviving.ensures c.requires.0, rw c.as_slice.ensures.0 (set_reached w.array.width w.array.disks w.cell_size 1 a.number c.none.result.low c.none.result.high c.clear.new.self c.push_surviving.new.self a.stripe.now c.requires.1 (omega arith) c.none.ensures c.clear.ensures c.push_surviving.ensures c.requires.0))

pub returns : goal.returns
returns c =
    let a = c.args in
    let w = a.geometry in
    set_tested w.array.width w.array.disks w.cell_size 1 a.number c.none.result.low c.none.result.high c.clear.new.self c.push_surviving.new.self a.stripe.now c.requires.1 (omega arith) c.none.ensures c.clear.ensures c.push_surviving.ensures c.requires.0 c.is_zero.result (rw c.as_slice.ensures.0 at c.is_zero.ensures)
