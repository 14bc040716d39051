-- `all_steps`: the steps so far, and those of the rows still to come, are all.
use Rattle.std.proofs.Common.{List, ◌∷◌, ◌++◌, [], subst, ℕ, ◌+◌, length, ap, ap₂, ◌∙◌}
use Rattle.std.proofs.lemmas.List.{length-append}
use Rattle.liberation.specs.Plans.{Step, step}
use Rattle.planner.specs.StepRecords.{Holds}
use Rattle.planner.specs.StepLists.{steps_put}
use Rattle.planner.proofs.StepRecord.{push, over, all_some, all_last}
use Rattle.planner.proofs.records.all_steps.Goals as goal

pub loop-row-preserved : goal.loop-row-preserved
loop-row-preserved g c =
    let a = c.args in
    let l = c.loop-row in
    let p = a.array.width in
    record {
      count = ap length c.push.ensures ∙ length-append (steps_put l.list) _ ∙ ap (λ (n : ℕ). n + 1) l.invariant.count;
      steps = λ t k. push (steps_put l.list) (step l.row t l.row) (all_some p t l.row c.loop-row-test.true) (l.invariant.steps t k) (c.push.ensures ∙ ap₂ (λ (x y : ℕ). steps_put l.list ++ (step l.row x y ∷ [])) (k l.row c.set.result c.loop-row-test.true c.set.ensures) (c.requires.numbered l.row c.set.result c.loop-row-test.true c.set.ensures));
    }

pub returns : goal.returns
returns g c =
    λ t k.
    let l = c.loop-row in
    subst (λ (ss : List Step). Holds ss l.list.steps) (over (steps_put l.list) (all_last c.args.array.width t l.row c.loop-row-test.false) (l.invariant.steps t k)) l.list.holds
