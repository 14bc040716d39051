-- `rebuild_column`: our plan is made and followed.
use mathlib.Core.Path.{ap, ◌∙◌}
use mathlib.Core.List.{List}
use Rattle.liberation.specs.Plans.{Step}
use Rattle.liberation.specs.Stripes.Stripes.{rebuilt_by, rebuilt}
use Rattle.planner.proofs.PlannedLaws.{ours_held, ours_accepted}
use Rattle.refusals.proofs.WithinLimits.{in_array}
use Rattle.rebuild_one.proofs.lost_disk.LostDisk.rebuild_column.Goals as goal

pub follow-requires : goal.follow-requires
follow-requires c =
    let s = c.args.self in
    let a = s.geometry.array in
    record {
      long = c.requires;
      plan = ours_accepted a.width a.disks s.disk c.plan_steps-plan.result.steps (in_array a) s.is_disk c.plan_steps-plan.ensures.steps;
    }

pub returns : goal.returns
unfolding rebuilt
returns c =
    let s = c.args.self in
    let a = s.geometry.array in
    c.follow.ensures ∙ ap (λ (ss : List Step). rebuilt_by a.width a.disks s.geometry.cell_size s.disk ss c.args.stripe.now) (ours_held a.width a.disks s.disk c.plan_steps-plan.result.steps (in_array a) s.is_disk c.plan_steps-plan.ensures.steps)
