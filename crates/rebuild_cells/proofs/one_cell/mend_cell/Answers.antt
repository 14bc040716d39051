-- `mend_cell`: the marks of the named sets' cells are toggled from no mark at all, the cell's own
-- is cleared, and the odd ones are gathered.
use mathlib.Core.Path.{ap, ◌∙◌}
use mathlib.Core.List.{List}
use Prim.Native.Nat.{ℕ, ◌*◌}
use lib.ListN.{set}
use Rattle.liberation.proofs.MarkLists.{cells_most}
use Rattle.refusals.proofs.WithinLimits.{sized}
use Rattle.stripe_cells.specs.Toggled.{toggled_all}
use Rattle.rebuild_cells.specs.Theory.Mending.{named_to}
use Rattle.rebuild_cells.proofs.MarkLoops.{none_marked}
use Rattle.rebuild_cells.proofs.NamedLaws.{mend_marked, mend_done}
use Rattle.rebuild_cells.proofs.one_cell.mend_cell.Goals as goal

pub gather_odd-requires : goal.gather_odd-requires
gather_odd-requires c =
    let g = c.args.geometry in
    let a = g.array in
    let made = ap (λ (l : List ℕ). set l c.args.cell 0) (c.toggle_named.ensures ∙ ap (toggled_all (named_to (2 * a.width) a.width a.disks c.args.word)) (none_marked a c.no_marks-marks.result c.cells.result c.no_marks-marks.ensures c.cells.ensures.0)) in
    mend_marked a.width a.disks g.cell_size c.args.cell c.args.word _ c.args.stripe.now (sized g c.args.stripe.now c.requires.0) c.requires.1 made (cells_most a.width a.disks a.widest a.within)

pub returns : goal.returns
returns c =
    let g = c.args.geometry in
    let a = g.array in
    let made = ap (λ (l : List ℕ). set l c.args.cell 0) (c.toggle_named.ensures ∙ ap (toggled_all (named_to (2 * a.width) a.width a.disks c.args.word)) (none_marked a c.no_marks-marks.result c.cells.result c.no_marks-marks.ensures c.cells.ensures.0)) in
    mend_done a.width a.disks g.cell_size c.args.cell c.args.word _ c.args.stripe.now (sized g c.args.stripe.now c.requires.0) c.requires.1 made c.gather_odd.new.stripe c.gather_odd.ensures
