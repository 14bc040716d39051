-- `fewest_data_plan`: the plans by three routes, and the one that reads fewest.
use Rattle.std.proofs.Common.{arith}
use Rattle.liberation.proofs.Widths.{width_least}
use Rattle.liberation.proofs.FewestPlan.FewestPlan.{fewest_step_lem}
use Rattle.planner.proofs.FewestLaws.{routed_fewest, routed_by}
use Rattle.planner.proofs.fewest.fewest_data_plan.Goals as goal

pub progression_routes-requires : goal.progression_routes-requires
progression_routes-requires c =
    let a = c.args.array in
    (omega (arith, c.requires, a.within), omega (arith, c.fewest_step-step.ensures, width_least a.width a.one_of_ten, (fewest_step_lem a.width a.disks c.args.lost a.one_of_ten a.within c.requires).high))

pub returns : goal.returns
returns c =
    let a = c.args.array in
    let f = c.args.lost in
    let p = c.progression_routes.ensures in
    let o = c.our_routes.ensures in
    let b = c.balanced_routes.ensures in
    routed_fewest a.width a.disks f c.fewest_step-step.result _ _ _ c.counted-best.result c.counted-ours.result c.counted-even.result c.fewer.result c.fewer-2.result c.fewest_step-step.ensures p.1 o.1 b.1
    (routed_by a _ f _ _ p.0 c.counted-best.ensures) (routed_by a _ f _ _ o.0 c.counted-ours.ensures) (routed_by a _ f _ _ b.0 c.counted-even.ensures) c.fewer.ensures c.fewer-2.ensures
