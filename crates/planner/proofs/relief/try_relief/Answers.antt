-- `try_relief`: refusals 1, 13, 3 and 4, else the relief plan with its reads counted.
use Rattle.std.proofs.Common.{◌≡◌, ◌≤◌, ◌+◌, ◌<◌, ℕ, sym, ap, ◌∙◌, arith}
use Rattle.refusals.proofs.WithinLimits.{in_array}
use Rattle.refusals.specs.declared.array.Array.{Array}
use Rattle.liberation.specs.Judging.{accepted}
use Rattle.liberation.specs.ReliefPlan.Relief.{relief_plan}
use Rattle.planner.specs.ReliefPlanSays.{relief_refusal, relief_word}
use Rattle.planner.proofs.PlanAnswers.{array_gives}
use Rattle.planner.proofs.ReliefLaws.{Passed, passed, relief_accepted, relief_held}
use Rattle.planner.proofs.relief.try_relief.Goals as goal

-- none of the refusals, of the array of the call
past : (a : Array) (p k f c : ℕ) → (a.width ≡ p) × (a.disks ≡ k) × (f ≤ k + 1) × (c < k) → relief_refusal p k f c ≡ 0 → Passed a.width a.disks f c
past a p k f c n z = record { array = in_array a; disk = omega (arith, n.1, n.2); data_disk = omega (arith, n.1, n.2); other = (passed p k f c z).other }

pub finished-requires : goal.finished-requires
finished-requires c =
    let a = c.in_ok-array.array in
    let s = c.args in
    let w = past a s.width s.disks s.lost s.relieved c.in_ok-array.ensures.numbers (sym c.in_ok-array.ensures.refusal) in
    (omega (arith, w.disk, c.in_ok-array.ensures.numbers.1), ap (accepted a.width a.disks s.lost) (relief_held a.width a.disks s.lost s.relieved c.relief_steps.result.steps w c.relief_steps.ensures.steps) ∙ relief_accepted a.width a.disks s.lost s.relieved w)

pub returns : goal.returns
returns c =
    let a = c.in_ok-array.array in
    let s = c.args in
    let n = c.in_ok-array.ensures.numbers in
    let z = sym c.in_ok-array.ensures.refusal in
    let q = c.relief_steps in
    let w = past a s.width s.disks s.lost s.relieved n z in
    array_gives a s.width s.disks s.lost _ (λ p k. relief_plan p k s.lost s.relieved) (λ p k. relief_word p k s.lost s.relieved) c.finished.result q.result n.0 n.1 z q.ensures (relief_held a.width a.disks s.lost s.relieved q.result.steps w q.ensures.steps) c.finished.ensures
