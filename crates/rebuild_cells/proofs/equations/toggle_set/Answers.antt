-- `toggle_set`: the cells of the set come one by one, and each has a mark.
use mathlib.Core.Path.{refl}
use lib.ListN.{length-set}
use Rattle.liberation.proofs.SetLaws.{set_below}
use Rattle.parity_sets.specs.ParitySets.{cells_of, kind_of, number_of}
use Rattle.rebuild_cells.proofs.ToggleLoops.{toggling_start, toggling_next, toggling_turn, toggling_end}
use Rattle.rebuild_cells.proofs.equations.toggle_set.Goals as goal

pub loop-cell-init : goal.loop-cell-init
loop-cell-init c =
    let a = c.args in
    rw (c.into_iter-cell-iterator.ensures.into_iter_gives, c.cells-cell-items.ensures) (toggling_start _ (cells_of a.array.width a.array.disks a.set) a.marks.now (set_below a.array.width a.array.disks (kind_of a.set) (number_of a.set) c.requires.0) c.requires.1)

pub bounds-marks-cell : goal.bounds-marks-cell
bounds-marks-cell c = toggling_next _ _ c.in-Some.ensures.steps c.loop-cell.invariant

pub loop-cell-preserved : goal.loop-cell-preserved
loop-cell-preserved c = let m = c.loop-cell.marks in toggling_turn _ _ _ c.in-Some.ensures.steps c.loop-cell.invariant refl (length-set m c.in-Some.cell _)

pub returns : goal.returns
returns c = toggling_end c.in-None.ensures.steps.0 c.loop-cell.invariant
