-- `judge_steps`: each turn reads three bytes, refuses the step or marks its row and the cells of
-- its set. The invariant: the rows rebuilt and the cells read so far, with the steps still to come,
-- give the answer of the whole plan.
use Rattle.std.proofs.Common.{rules, ◌+◌, length, ap, ◌∙◌, arith}
use lib.ListN.{set}
use Rattle.std.specs.Prelude.{true}
use Rattle.std.specs.Iterator.Adapters.{enumerate_source, enumerate_count}
use Rattle.std.specs.Slice.Iter.{chunks_exact_rest}
use Rattle.liberation.proofs.MarkLists.{length_marks}
use Rattle.judge.specs.Steps.{step_of}
use Rattle.refusals.proofs.RefusalNumbers.{number_some}
use Rattle.judge.proofs.JudgingLoop.{Halfway, halfway_start, halfway_turn, halfway_refused, halfway_end}
use Rattle.judge.proofs.all_steps.judge_steps.Goals as goal

-- the loop's state after one more step
turned : (c : goal.After-slice_known-in-loop-place-1) → let a = c.args in let l = c.loop-place in let t = c.next.new.self in Halfway a.array.width a.array.disks a.lost a.plan.now (set l.rebuilt c.in-Ok.step.row true) c.mark_set-reads.new.marks (l.reads + c.mark_set-reads.result) (enumerate_count t) (chunks_exact_rest (enumerate_source t))
turned c =
    let a = c.args in
    let l = c.loop-place in
    let s = c.in-Some.ensures.steps in
    halfway_turn c.in-Some.bytes.now _ _ (step_of c.in-Ok.step) _ _ a.array.widest a.array.within c.in-Ok.ensures.step.0 s.2 s.0.1.0 (s.0.1.1 ∙ l.invariant.by_three) c.in-Ok.ensures.refusal l.invariant.halfway c.mark_set-reads.ensures

pub loop-place-init : goal.loop-place-init
loop-place-init c = record {
  can_next = search rules;
  is_finite = search rules;
  by_three = search rules;
  halfway = halfway_start _ _ _ _ c.args.plan.now _ _ (search rules) (search rules) c.requires.plan_len c.requires.marks_value;
}

pub returns-in-Err : goal.returns-in-Err
returns-in-Err c =
    let s = c.in-Some.ensures.steps in
    halfway_refused c.in-Some.bytes.now _ _ s.1 s.0.1.0 (s.0.1.1 ∙ c.loop-place.invariant.by_three) c.in-Err.ensures.refusal (number_some _) c.loop-place.invariant.halfway

pub mark_set-reads-requires-clause-marks_len : goal.mark_set-reads-requires-clause-marks_len
mark_set-reads-requires-clause-marks_len c = let h = c.loop-place.invariant.halfway in ap length h.marks ∙ length_marks _ 0 h.cells

pub overflow_add-reads : goal.overflow_add-reads
overflow_add-reads c = let h = turned c in omega (arith, h.few, h.within, c.args.array.widest)

pub loop-place-preserved : goal.loop-place-preserved
loop-place-preserved c = record {
  can_next = search rules;
  is_finite = search rules;
  by_three = search rules;
  halfway = turned c;
}

pub returns : goal.returns
returns c = halfway_end (search rules) c.loop-place.invariant.halfway
