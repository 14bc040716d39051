-- `mark_set`: the cells of the set come one by one, and each turn marks the next. The invariant: the
-- marks so far, with the cells still to come, give the marks and the count of the whole set.
use native.Mathlib.Omega.{arith}
use Rattle.liberation.proofs.SetLaws.{set_below}
use Rattle.liberation.proofs.SetSizes.{size_most}
use Rattle.parity_sets.specs.ParitySets.{cells_of, kind_of, number_of}
use Rattle.parity_sets.proofs.MarkLaws.{marking_start, marking_turn, marking_end}
use Rattle.parity_sets.proofs.marks.mark_set.Goals as goal

pub loop-cell-init : goal.loop-cell-init
loop-cell-init c =
    let a = c.args in
    let s = marking_start _ a.array.width a.lost (cells_of a.array.width a.array.disks a.set) a.marks.now (set_below a.array.width a.array.disks (kind_of a.set) (number_of a.set) c.requires.in_array.1) c.requires.marks_len in
    rw (c.into_iter-cell-iterator.ensures.into_iter_gives, c.cells-cell-items.ensures) s

pub overflow_add-fresh : goal.overflow_add-fresh
overflow_add-fresh c =
    let a = c.args in
    omega (arith, (marking_turn _ _ _ _ c.in-Some.ensures.steps c.loop-cell.invariant c.mark_cell-fresh.ensures).few, size_most a.array.width a.array.disks (kind_of a.set) (number_of a.set))

pub loop-cell-preserved : goal.loop-cell-preserved
loop-cell-preserved c = marking_turn _ _ _ _ c.in-Some.ensures.steps c.loop-cell.invariant c.mark_cell-fresh.ensures

pub returns : goal.returns
returns c = marking_end c.in-None.ensures.steps.0 c.loop-cell.invariant
