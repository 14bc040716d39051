-- `read_list`: refusals 1, 13, 3 and 5, then the cells of our plan are marked in zeros.
use Rattle.std.proofs.Common.{rules, ◌≡◌, ◌≤◌, ◌+◌, ◌*◌, ℕ, length, refl, sym, ap, ap₂, ◌∙◌, arith}
use lib.ListN.{replicate}
use Rattle.refusals.proofs.WithinLimits.{in_array}
use Rattle.liberation.specs.Plans.{plan_of, list_of}
use Rattle.liberation.proofs.RefusalLaws.{long_of}
use Rattle.liberation.proofs.MarkLists.{no_cells}
use Rattle.planner.proofs.ListAnswers.{list_says}
use Rattle.planner.proofs.PlannedLaws.{ours_held, ours_accepted}
use Rattle.planner.proofs.reads.read_list.Goals as goal

pub mark_steps-requires : goal.mark_steps-requires
mark_steps-requires c =
    let a = c.in_ok-array.array in
    let n = c.in_ok-array.ensures.numbers in
    let d : c.args.lost ≤ a.disks + 1 = omega (arith, n.1, n.2) in
    let m = a.width * (a.disks + 2) in
    let zeros : c.fill.new.self ≡ replicate (length c.args.list.now) 0 = search rules in
    let l : length c.args.list.now ≡ m = long_of c.cells.result c.args.list.now (sym c.in_ok-check_length.ensures) ∙ c.cells.ensures.0 in
    (omega (arith, n.1, n.2), ours_accepted a.width a.disks c.args.lost c.plan_steps.result.steps (in_array a) d c.plan_steps.ensures.steps, zeros ∙ ap (λ (k : ℕ). replicate k 0) l ∙ no_cells m 0)

pub returns : goal.returns
returns c =
    let s = c.args in
    let a = c.in_ok-array.array in
    let n = c.in_ok-array.ensures.numbers in
    let d : s.lost ≤ a.disks + 1 = omega (arith, n.1, n.2) in
    let l : length s.list.now ≡ s.width * (s.disks + 2) = long_of c.cells.result s.list.now (sym c.in_ok-check_length.ensures) ∙ c.cells.ensures.0 ∙ ap₂ (λ (p k : ℕ). p * (k + 2)) n.0 n.1 in
    list_says s.width s.disks s.lost s.list.now c.mark_steps.new.marks _ (sym c.in_ok-array.ensures.refusal) l
    (c.mark_steps.ensures.1 ∙ ap (list_of a.width a.disks s.lost) (ours_held a.width a.disks s.lost c.plan_steps.result.steps (in_array a) d c.plan_steps.ensures.steps) ∙ ap₂ (λ (p k : ℕ). list_of p k s.lost (plan_of p k s.lost)) n.0 n.1)
    (record { refusal = refl; place = refl })
