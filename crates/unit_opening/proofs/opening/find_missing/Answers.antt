-- `find_missing`: each turn writes the mark of the next piece; there is room for all.
use mathlib.Core.Path.{◌≡◌, ◌∙◌}
use Prim.Native.Nat.{◌+◌, ◌-◌, ◌*◌, ◌≤◌}
use native.Mathlib.Omega.{arith}
use lib.ListN.{length-set}
use borrow.Author.Rules.{rules}
use Rattle.liberation.proofs.MarkLists.{cells_most}
use Rattle.unit_opening.specs.Opening.{is_present}
use Rattle.unit_opening.proofs.MarkLaws.{mark_is, marks_more, marks_done}
use Rattle.unit_opening.proofs.opening.find_missing.Goals as goal

pub loop-x-preserved : goal.loop-x-preserved
loop-x-preserved c =
    let u = c.args.unit in
    let b = u.block in
    let x = c.loop-x.x in
    let f = is_present b.array.width u.piece_bytes b.label.name.now b.label.unit b.bytes.now c.args.marks.now c.args.cells.now in
    let few : b.array.width * (b.array.disks + 2) ≤ 1023 = cells_most b.array.width b.array.disks b.array.widest b.array.within in (
      length-set c.loop-x.missing x c.from.result ∙ c.loop-x.invariant.0,
      marks_more f c.loop-x.missing (b.array.width * (b.array.disks + 2)) x c.from.result _ (omega (arith, few, c.requires.marks)) (omega (arith, c.requires.marks))
          (mark_is c.is_present.result (f x) c.from.result c.from.ensures c.is_present.ensures) c.loop-x.invariant.1,
    )

pub loop-x-init : goal.loop-x-init
loop-x-init c =
    let b = c.args.unit.block in
    (search rules, let z : b.array.width * (b.array.disks + 2) - 0 ≡ b.array.width * (b.array.disks + 2) = omega arith in search rules)

pub returns : goal.returns
returns c =
    let u = c.args.unit in
    let b = u.block in
    let f = is_present b.array.width u.piece_bytes b.label.name.now b.label.unit b.bytes.now c.args.marks.now c.args.cells.now in
    marks_done f c.loop-x.missing (b.array.width * (b.array.disks + 2)) c.loop-x.x _ (omega (arith, c.requires.marks)) c.loop-x.invariant.1
