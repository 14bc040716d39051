-- `mark_steps`: each turn marks the set of the next step. The invariant: the marks stand for the
-- cells read so far, and with the steps still to come they give all that the plan reads.
use Rattle.std.proofs.Common.{ℕ, List, subst, ◌+◌, ◌≤◌, ap, ◌∙◌, arith, length}
use native.Mathlib.Nat.{mul-le-mul}
use Rattle.liberation.proofs.MarkLists.{length_marks}
use Rattle.liberation.proofs.RecordLaws.{length_recorded}
use Rattle.liberation.specs.Sets.{surviving_in}
use Rattle.parity_sets.specs.Marks.{Marked}
use Rattle.parity_sets.specs.ParitySets.{cells_of}
use Rattle.planner.specs.StepRecords.{held}
use Rattle.planner.proofs.HeldLaws.{step_at, held_at, held_passed}
use Rattle.planner.proofs.MarkingLoop.{Reading, reading_turn, reading_end, named, cells_named}
use Rattle.planner.proofs.mark_steps.Goals as goal

pub mark_set-reads-requires-clause-in_array : goal.mark_set-reads-requires-clause-in_array
mark_set-reads-requires-clause-in_array c =
    let a = c.args in
    (c.requires.0, rw c.set.ensures (named _ _ (held_passed a.array.width a.array.disks a.lost c.loop-place.place a.steps c.requires.1 c.loop-place-test.true).1.number_below))

pub mark_set-reads-requires-clause-marks_len : goal.mark_set-reads-requires-clause-marks_len
mark_set-reads-requires-clause-marks_len c = let i = c.loop-place.invariant in ap length i.marks ∙ length_marks _ 0 i.cells

-- the loop's state after one more step
turned : (c : goal.After-slice_known-in-loop-place-1) → let a = c.args in let l = c.loop-place in Reading a.array.width a.array.disks a.lost (held a.array.width a.steps) c.mark_set-reads.new.marks (l.reads + c.mark_set-reads.result) (l.place + 1)
turned c =
    let a = c.args in
    let l = c.loop-place in
    let p = a.array.width in
    let s = step_at a.steps l.place in
    reading_turn p a.array.disks a.lost (held p a.steps) l.marks c.mark_set-reads.new.marks l.reads l.place c.mark_set-reads.result s (held_at p l.place a.steps c.loop-place-test.true) (omega (arith, c.loop-place-test.true, length_recorded p 0 a.steps.rows a.steps.kinds a.steps.numbers))
    (held_passed p a.array.disks a.lost l.place a.steps c.requires.1 c.loop-place-test.true).1.number_below l.invariant
    (subst (λ (xs : List ℕ). Marked l.marks c.mark_set-reads.new.marks (surviving_in p a.lost xs) c.mark_set-reads.result) (ap (cells_of p a.array.disks) c.set.ensures ∙ cells_named p a.array.disks s.kind s.number) c.mark_set-reads.ensures)

pub overflow_add-reads : goal.overflow_add-reads
overflow_add-reads c =
    let a = c.args.array in
    let h = turned c in
    let k : a.disks + 2 ≤ 33 = omega (arith, a.within, a.widest) in
    let i : c.loop-place.place + 1 ≤ 31 = omega (arith, c.loop-place-test.true, a.widest) in
    omega (arith, h.few, mul-le-mul k i)

pub loop-place-preserved : goal.loop-place-preserved
loop-place-preserved c = turned c

pub returns : goal.returns
returns c =
    let a = c.args in
    let l = c.loop-place in
    reading_end a.array.width a.array.disks a.lost (held a.array.width a.steps) l.marks l.reads l.place (omega (arith, c.loop-place-test.false, length_recorded a.array.width 0 a.steps.rows a.steps.kinds a.steps.numbers)) l.invariant
