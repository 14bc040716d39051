-- `write_list`: the list is cleared, and the cells that the steps read are marked.
use Rattle.std.proofs.Common.{rules, ◌≡◌, ℕ, length, ap, ◌∙◌}
use lib.ListN.{replicate}
use Rattle.liberation.specs.Plans.{list_of}
use Rattle.liberation.specs.Judging.{accepted}
use Rattle.liberation.proofs.MarkLists.{no_cells}
use Rattle.host_plans.proofs.reads.write_list.Goals as goal

pub mark_steps-requires : goal.mark_steps-requires
mark_steps-requires c =
    let a = c.args.array in
    let q = c.requires.in_array in
    let zeros : c.fill.new.self ≡ replicate (length c.args.list.now) 0 = search rules in
    (q.0, ap (accepted a.width a.disks c.args.lost) c.steps_in.ensures ∙ c.requires.plan_value, zeros ∙ ap (λ (n : ℕ). replicate n 0) q.2 ∙ no_cells _ 0)

pub returns : goal.returns
returns c = let a = c.args.array in c.mark_steps.ensures.1 ∙ ap (list_of a.width a.disks c.args.lost) c.steps_in.ensures
