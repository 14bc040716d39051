-- `compare_mended`: each turn writes the mark of the next piece.
use mathlib.Core.Path.{◌∙◌}
use Prim.Native.Nat.{◌+◌, ◌*◌}
use native.Mathlib.Omega.{arith}
use Rattle.unit_sums.specs.Sums.{fits}
use Rattle.unit_opening.proofs.MarkLaws.{mark_is, marks_more, marks_end}
use Rattle.unit_opening.proofs.opening.compare_mended.Goals as goal

pub loop-x-preserved : goal.loop-x-preserved
loop-x-preserved c =
    let u = c.args.unit in
    let b = u.block in
    let x = c.loop-x.x in
    let f = fits b.array.width u.piece_bytes b.label.name.now b.label.unit b.bytes.now c.args.cells.now in
    marks_more f c.loop-x.marks (b.array.width * (b.array.disks + 2)) x c.from.result _ (omega (arith, c.loop-x.auto.marks)) (omega (arith, c.requires.marks))
    (mark_is c.is_mended.result (f x) c.from.result c.from.ensures c.is_mended.ensures) c.loop-x.invariant

pub returns : goal.returns
returns c =
    let u = c.args.unit in
    let b = u.block in
    let f = fits b.array.width u.piece_bytes b.label.name.now b.label.unit b.bytes.now c.args.cells.now in
    marks_end f c.loop-x.marks (b.array.width * (b.array.disks + 2)) c.loop-x.x _ (c.loop-x.auto.marks ∙ c.requires.marks) (omega (arith, c.requires.marks)) c.loop-x.invariant
