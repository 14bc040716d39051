-- `steps_in`: each turn copies the three bytes of a step to their places.
use Rattle.std.proofs.Common.{◌≡◌}
use Rattle.std.specs.Iterator.Adapters.{enumerate_source, enumerate_count}
use Rattle.std.specs.Slice.Iter.{chunks_exact_rest, chunks_exact_size}
use Rattle.host_plans.proofs.FillLaws.{Filled}
use Rattle.host_plans.proofs.bytes.steps_in.Given as goal

abbrev pub invariant-loop-place : goal.invariant-loop-place
invariant-loop-place l = record {
  can_next : (goal.iterator-loop-place).can_next l.place-iterator;
  is_finite : (goal.iterator-loop-place).is_finite l.place-iterator;
  by_three : chunks_exact_size (enumerate_source l.place-iterator) ≡ 3;
  filled : Filled l.plan l.steps (enumerate_count l.place-iterator) (chunks_exact_rest (enumerate_source l.place-iterator));
}
