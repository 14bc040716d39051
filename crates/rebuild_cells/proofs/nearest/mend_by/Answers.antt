-- `mend_by`: a word that names the cell's row set or its diagonal alone is that set.
use mathlib.Core.Path.{◌∙◌}
use Prim.Native.Nat.{◌+◌, ◌*◌}
use Rattle.mathematics.proofs.MemberLaws.{in_below}
use Rattle.rebuild_cells.specs.Theory.Mending.{odd_cells}
use Rattle.rebuild_cells.proofs.SetSteps.{alone_ordinary, alone_solved}
use Rattle.rebuild_cells.proofs.Theory.OddCells.{cells_below}
use Rattle.rebuild_cells.proofs.nearest.mend_by.Goals as goal

pub solve-requires : goal.solve-requires
solve-requires c =
    let a = c.args in
    record { stripe_len = c.requires.0; ordinary = alone_ordinary a.geometry.array a.cell a.word c.in-Some.set c.in-Some.ensures c.requires.1 }

pub returns-in-Some : goal.returns-in-Some
returns-in-Some c =
    let a = c.args in
    c.solve.ensures ∙ alone_solved a.geometry a.cell a.word c.in-Some.set a.stripe.now c.requires.0 c.in-Some.ensures c.requires.1

pub mend_cell-requires : goal.mend_cell-requires
mend_cell-requires c =
    let a = c.args.geometry.array in
    let w = c.args.word in
    (c.requires.0, in_below (a.width * (a.disks + 2)) c.args.cell (odd_cells a.width a.disks w) (cells_below a.width a.disks a.some w) c.requires.1)
