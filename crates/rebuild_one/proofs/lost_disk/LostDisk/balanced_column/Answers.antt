-- `balanced_column`: the balanced plan is made and followed.
use mathlib.Core.Path.{ap, ◌∙◌}
use mathlib.Core.List.{List}
use Rattle.liberation.specs.Plans.{Step}
use Rattle.liberation.specs.Stripes.Stripes.{rebuilt_by}
use Rattle.planner.proofs.BalancedLaws.{balanced_held, held_accepted}
use Rattle.refusals.proofs.WithinLimits.{in_array}
use Rattle.rebuild_one.proofs.lost_disk.LostDisk.balanced_column.Goals as goal

pub follow-requires : goal.follow-requires
follow-requires c =
    let s = c.args.self in
    let a = s.geometry.array in
    record {
      long = c.requires;
      plan = held_accepted a.width a.disks s.disk c.balanced_steps-plan.result.steps (in_array a) s.is_disk c.balanced_steps-plan.ensures.steps;
    }

pub returns : goal.returns
returns c =
    let s = c.args.self in
    let a = s.geometry.array in
    c.follow.ensures ∙ ap (λ (ss : List Step). rebuilt_by a.width a.disks s.geometry.cell_size s.disk ss c.args.stripe.now) (balanced_held a.width a.disks s.disk c.balanced_steps-plan.result.steps (in_array a) s.is_disk c.balanced_steps-plan.ensures.steps)
