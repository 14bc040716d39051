-- `judge_steps`: each turn reads three bytes, refuses the step or marks its row and the cells of
-- its set. The invariant: the rows rebuilt and the cells read so far, with the steps still to come,
-- give the answer of the whole plan.
use Rattle.std.proofs.Common.{◌≡◌}
use Rattle.std.specs.Iterator.Adapters.{enumerate_source, enumerate_count}
use Rattle.std.specs.Slice.Iter.{chunks_exact_rest, chunks_exact_size}
use Rattle.judge.proofs.JudgingLoop.{Halfway}
use Rattle.judge.proofs.all_steps.judge_steps.Given as goal

abbrev pub invariant-loop-place : goal.invariant-loop-place
invariant-loop-place l = record {
  can_next : (goal.iterator-loop-place).can_next l.place-iterator;
  is_finite : (goal.iterator-loop-place).is_finite l.place-iterator;
  by_three : chunks_exact_size (enumerate_source l.place-iterator) ≡ 3;
  halfway : Halfway l.array.width l.array.disks l.lost l.plan l.rebuilt l.marks l.reads (enumerate_count l.place-iterator) (chunks_exact_rest (enumerate_source l.place-iterator));
}
