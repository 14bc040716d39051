-- `plan_column`: the steps that the bytes name are followed.
use Rattle.std.proofs.Common.{List, ap, ◌∙◌}
use Rattle.liberation.specs.Plans.{Step}
use Rattle.liberation.specs.Judging.{accepted}
use Rattle.liberation.specs.Stripes.Stripes.{rebuilt_by}
use Rattle.host_plans.proofs.rebuild.plan_column.Goals as goal

pub follow-requires : goal.follow-requires
follow-requires c =
    let l = c.args.lost in
    let g = l.geometry in
    let q = c.requires.sized in
    record {
      long = (q.0, q.2);
      plan = ap (accepted g.array.width g.array.disks l.disk) c.steps_in-steps.ensures ∙ c.requires.plan_value;
    }

pub returns : goal.returns
returns c =
    let l = c.args.lost in
    let g = l.geometry in
    c.follow.ensures ∙ ap (λ (ss : List Step). rebuilt_by g.array.width g.array.disks g.cell_size l.disk ss c.args.stripe.now) c.steps_in-steps.ensures
