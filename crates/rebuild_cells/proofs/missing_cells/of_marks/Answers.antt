-- `of_marks`: a mark that is not 0 adds its cell, and where there is no room for it there are more
-- missing cells than room.
use mathlib.Core.Path.{refl}
use native.Mathlib.Omega.{arith}
use lib.ListN.{get_or, length-append}
use Rattle.rebuild_cells.specs.Theory.Mending.{missing_cells}
use Rattle.rebuild_cells.proofs.MarkLoops.{list_marked, list_unmarked, list_more, list_end}
use Rattle.rebuild_cells.proofs.missing_cells.of_marks.Goals as goal
use Rattle.rebuild_cells.proofs.missing_cells.of_marks.Goals.{then-mark-ne0+else-len-most, else-mark-ne0}

pub returns-then-len-most : goal.returns-then-len-most
returns-then-len-most c =
    let l = c.loop-cell in
    let ms = c.args.marks.now in
    omega (arith, list_more ms l.missing (missing_cells ms) l.cell (get_or ms l.cell 0) (omega arith) refl c.if-mark-ne0.true l.invariant.0)

pub loop-cell-preserved : goal.loop-cell-preserved
loop-cell-preserved c =
    let l = c.loop-cell in
    let ms = c.args.marks.now in
    let m = get_or ms l.cell 0 in
    elim c.if-mark-ne0.branch [
      | then-mark-ne0+else-len-most w ↦ let q = list_marked ms l.missing (missing_cells ms) l.cell m (omega arith) refl w.if-mark-ne0.true l.invariant.0 in rw (w.missing-is, w.push.ensures) (q, simp length-append (omega (arith, w.len.ensures)))
      | else-mark-ne0 w ↦ let q = list_unmarked ms l.missing (missing_cells ms) l.cell m (omega arith) refl w.if-mark-ne0.false l.invariant.0 in rw w.missing-is (q, l.invariant.1)
    ]

pub returns : goal.returns
returns c =
    let l = c.loop-cell in
    let ms = c.args.marks.now in
    (list_end ms l.missing (missing_cells ms) l.cell (omega arith) l.invariant.0, l.invariant.1)
