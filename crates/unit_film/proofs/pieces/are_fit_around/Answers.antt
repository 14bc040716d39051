-- `are_fit_around`: the pieces one after the other, up to the first that does not fit.
use mathlib.Core.Path.{sym, ap}
use mathlib.Core.Bool.{not}
use Prim.Native.Nat.{◌+◌, ◌*◌, ◌%◌}
use Rattle.mathematics.proofs.AllLaws.{all_start, all_more, all_fails}
use Rattle.unit_sums.specs.Sums.{fits}
use Rattle.unit_film.proofs.pieces.are_fit_around.Goals as goal

pub loop-i-init : goal.loop-i-init
loop-i-init c =
    let b = c.args.unit.block in
    all_start (λ i. fits b.array.width c.args.unit.piece_bytes b.label.name.now b.label.unit b.bytes.now c.args.cells.now ((c.args.first + i) % (b.array.disks * b.array.width)))

pub returns-then-not-is_fit : goal.returns-then-not-is_fit
returns-then-not-is_fit c =
    let b = c.args.unit.block in
    sym (all_fails c.args.count c.loop-i.i (λ i. fits b.array.width c.args.unit.piece_bytes b.label.name.now b.label.unit b.bytes.now c.args.cells.now ((c.args.first + i) % (b.array.disks * b.array.width))) c.is_fit.result c.loop-i-test.true c.is_fit.ensures (ap not c.if-not-is_fit.true))

pub loop-i-preserved : goal.loop-i-preserved
loop-i-preserved c =
    let b = c.args.unit.block in
    all_more c.loop-i.i (λ i. fits b.array.width c.args.unit.piece_bytes b.label.name.now b.label.unit b.bytes.now c.args.cells.now ((c.args.first + i) % (b.array.disks * b.array.width))) c.is_fit.result c.loop-i.invariant c.is_fit.ensures (ap not c.if-not-is_fit.false)
