-- `try_progress`: whether the run is over, and the rebuilt stripes × our plan's count, which are few.
use Rattle.std.proofs.Common.{rules, ◌≡◌, ◌≤◌, ◌*◌, arith}
use Rattle.rebuild_runs.specs.Runs.{read_refusal}
use Rattle.rebuild_runs.specs.ProgressSays.{cells_so_far}
use Rattle.rebuild_runs.proofs.RunRefusals.{read_passed}
use Rattle.rebuild_runs.proofs.ProgressLaws.{reads_are, cells_most}
use Rattle.rebuild_runs.proofs.progress.try_progress.Goals as goal

pub returns-clause-progress : goal.returns-clause-progress
returns-clause-progress c =
    let x = c.args.run in
    let r = c.plan_disk-plan.result in
    let none : read_refusal x ≡ 0 = search rules in
    let reads = reads_are x r (read_passed x none).0 c.plan_disk-plan.ensures in
    let few : cells_so_far x ≤ 4294967295 * 1023 = cells_most x (read_passed x none).0 (omega arith) in
    rw reads (search (rules, few))
