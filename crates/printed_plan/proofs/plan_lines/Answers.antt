-- `plan_lines`: each turn marks the set of the next step and appends its line. The invariant is
-- LineLaws' `Printing`.
use mathlib.Core.Path.{◌≡◌, ap, ap₂, ◌∙◌}
use mathlib.Core.List.{[], ◌++◌}
use Prim.Native.Nat.{ℕ, ◌+◌, ◌*◌}
use native.Mathlib.Omega.{arith}
use lib.ListN.{get_or, take}
use Rattle.liberation.specs.Sets.{set_of, surviving_in}
use Rattle.liberation.specs.Plans.{step, plan_of}
use Rattle.liberation.proofs.MarkLists.{take_marks, cells_most}
use Rattle.liberation.proofs.RecordLaws.{plan_length}
use Rattle.parity_sets.specs.Marks.{Marked}
use Rattle.parity_sets.proofs.MarkLaws.{marked_few}
use Rattle.planner.proofs.MarkingLoop.{named}
use Rattle.printed_plan.specs.Text.{line_of}
use Rattle.printed_plan.proofs.LineLaws.{plan_step, marked_step, printing_start, printing_turn, printing_end}
use Rattle.printed_plan.proofs.plan_lines.Goals as goal

pub loop-index-init : goal.loop-index-init
loop-index-init c =
    let a = c.args.array in
    let n = a.width * (a.width + 2) in
    let e : c.cells.result ≡ n = c.cells.ensures.0 ∙ ap (λ (k : ℕ). a.width * (k + 2)) c.requires.0 in
    rw (c.extend_from_slice.ensures, c.new-text.ensures) (printing_start a.width c.args.disk (plan_of a.width a.width c.args.disk) _ (ap₂ take e c.no_marks-all_marks.ensures ∙ take_marks n 1023 0 [] (cells_most a.width a.width a.widest (omega arith))))

pub mark_set-new-requires-clause-in_array : goal.mark_set-new-requires-clause-in_array
mark_set-new-requires-clause-in_array c =
    let a = c.args in
    let i = c.loop-index.index in
    let this = plan_step a.array.width a.disk i a.steps a.array.one_of_ten c.requires.1 c.requires.2 c.loop-index-test.true in
    (omega (arith, c.requires.0, c.requires.1), rw c.set.ensures (named (get_or a.steps.kinds i 0) (get_or a.steps.numbers i 0) (omega (arith, this.number, this.number_below))))

-- the cells of the step are marked
marked : (c : goal.After-text-in-loop-index-1) → let a = c.args in let p = a.array.width in let s = (plan_step p a.disk c.loop-index.index a.steps a.array.one_of_ten c.requires.1 c.requires.2 c.loop-index-test.true).here.this in Marked c.loop-index.marks c.mark_set-new.new.marks (surviving_in p a.disk (set_of p p s.kind s.number)) c.mark_set-new.result
marked c =
    let a = c.args in
    let i = c.loop-index.index in
    let this = plan_step a.array.width a.disk i a.steps a.array.one_of_ten c.requires.1 c.requires.2 c.loop-index-test.true in
    marked_step a.array.width a.array.disks a.disk (get_or a.steps.kinds i 0) (get_or a.steps.numbers i 0) this.here.this.kind this.here.this.number c.set.ensures c.requires.0 this.kind this.number c.mark_set-new.ensures

pub overflow_cast-new : goal.overflow_cast-new
overflow_cast-new c =
    let a = c.args in
    let s = (plan_step a.array.width a.disk c.loop-index.index a.steps a.array.one_of_ten c.requires.1 c.requires.2 c.loop-index-test.true).here.this in
    omega (arith, a.array.widest, marked_few a.array.width a.array.width a.disk s.kind s.number (marked c))

pub push_line-requires : goal.push_line-requires
push_line-requires c =
    let a = c.args in
    let this = plan_step a.array.width a.disk c.loop-index.index a.steps a.array.one_of_ten c.requires.1 c.requires.2 c.loop-index-test.true in
    let s = this.here.this in
    let w = a.array.widest in (
      omega (arith, w, c.loop-index-test.true),
      omega (arith, w, this.row, this.row_below),
      omega (arith, w, this.number, this.number_below),
      omega (arith, w, marked_few a.array.width a.array.width a.disk s.kind s.number (marked c)),
      omega (arith, w, c.loop-index-test.true, c.loop-index.invariant.few),
    )

pub loop-index-preserved : goal.loop-index-preserved
loop-index-preserved c =
    let a = c.args in
    let i = c.loop-index.index in
    let this = plan_step a.array.width a.disk i a.steps a.array.one_of_ten c.requires.1 c.requires.2 c.loop-index-test.true in
    let text = c.push_line.ensures ∙ (λ j. c.loop-index.text ++ line_of i (step (this.row j) (this.kind j) (this.number j)) c.mark_set-new.result) in
    rw text
    (printing_turn a.array.width a.disk (plan_of a.array.width a.array.width a.disk) i this.here this.number_below c.loop-index.invariant
    (marked_step a.array.width a.array.disks a.disk (get_or a.steps.kinds i 0) (get_or a.steps.numbers i 0) this.here.this.kind this.here.this.number c.set.ensures c.requires.0 this.kind this.number c.mark_set-new.ensures))

pub returns : goal.returns
returns c = let a = c.args.array in printing_end (omega (arith, plan_length a.width a.width c.args.disk a.one_of_ten (omega arith) c.requires.1, c.loop-index-test.false)) c.loop-index.invariant
