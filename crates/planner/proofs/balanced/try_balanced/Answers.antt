-- `try_balanced`: refusals 1, 13 and 3, else the balanced plan with its reads counted.
use Rattle.std.proofs.Common.{◌≤◌, ◌+◌, sym, arith}
use Rattle.refusals.proofs.WithinLimits.{in_array}
use Rattle.liberation.specs.BalancedPlan.Balanced.{balanced_plan}
use Rattle.planner.specs.BalancedStepsSays.{balanced_word}
use Rattle.planner.proofs.PlanAnswers.{array_gives}
use Rattle.planner.proofs.BalancedLaws.{balanced_held, held_accepted}
use Rattle.planner.proofs.balanced.try_balanced.Goals as goal

pub finished-requires : goal.finished-requires
finished-requires c =
    let a = c.in_ok-array.array in
    let n = c.in_ok-array.ensures.numbers in
    let d : c.args.lost ≤ a.disks + 1 = omega (arith, n.1, n.2) in
    (omega (arith, n.1, n.2), held_accepted a.width a.disks c.args.lost c.balanced_steps.result.steps (in_array a) d c.balanced_steps.ensures.steps)

pub returns : goal.returns
returns c =
    let a = c.in_ok-array.array in
    let f = c.args.lost in
    let n = c.in_ok-array.ensures.numbers in
    let q = c.balanced_steps in
    let d : f ≤ a.disks + 1 = omega (arith, n.1, n.2) in
    array_gives a c.args.width c.args.disks f _ (λ p k. balanced_plan p k f) (λ p k. balanced_word p k f) c.finished.result q.result n.0 n.1 (sym c.in_ok-array.ensures.refusal) q.ensures (balanced_held a.width a.disks f q.result.steps (in_array a) d q.ensures.steps) c.finished.ensures
