-- `all_steps`: the steps so far, and those of the rows still to come, are all, whatever kind the sets
-- are of.
use Rattle.std.proofs.Common.{◌≡◌, ◌++◌, ◌-◌, ◌<◌, ℕ, length}
use Rattle.liberation.specs.Plans.{all_of}
use Rattle.parity_sets.specs.ParitySets.{kind_of}
use Rattle.parity_sets.specs.declared.set.ParitySet.{ParitySet}
use Rattle.planner.specs.StepLists.{steps_put}
use Rattle.planner.proofs.records.all_steps.Given as goal

abbrev pub invariant-loop-row : goal.invariant-loop-row
invariant-loop-row g l = record {
  count : length (steps_put l.list) ≡ l.row;
  steps : (t : ℕ) → ((n : ℕ) (s : ParitySet) → n < l.fn.array.width → g.F.Fn.post l.set (n, tt) s → kind_of s ≡ t) → steps_put l.list ++ all_of (l.fn.array.width - l.row) t l.row ≡ all_of l.fn.array.width t 0;
}
