-- `follow_within`: each turn does the next step of our plan, which solves an ordinary cell. The
-- invariant: the steps still to come, done to the stripe as it is, give what all steps give to the
-- stripe as it was.
use mathlib.Core.Path.{sym, ap₂, ◌∙◌}
use mathlib.Core.List.{List}
use Prim.Native.Nat.{ℕ}
use native.Mathlib.Omega.{arith}
use Rattle.liberation.specs.Sets.{place, set_of}
use Rattle.liberation.specs.Stripes.Stripes.{solved}
use Rattle.rebuild_one.proofs.InPlaceSteps.{plan_step, plan_ordinary, steps_turn, steps_last}
use Rattle.rebuild_one.proofs.StepSets.{step_cells, step_ordinary}
use Rattle.rebuild_one.proofs.lost_disk.LostDisk.follow_within.Goals as goal

pub solve-requires-clause-ordinary : goal.solve-requires-clause-ordinary
solve-requires-clause-ordinary c =
    let s = c.args.self in
    let a = s.geometry.array in
    let i = c.loop-i.i in
    let w = plan_step a.width a.disks s.disk i c.args.steps a.one_of_ten a.within s.is_disk c.requires.1 c.loop-i-test.true in
    step_ordinary c.of_step-set.result a.width a.disks _ _ s.disk c.from-row.result c.of_step-set.ensures (rw (c.from-row.ensures, w.1, w.2, w.3) (plan_ordinary a.width a.disks s.disk a.one_of_ten a.within s.is_disk i w.0 c.loop-i-test.true))

pub loop-i-preserved : goal.loop-i-preserved
loop-i-preserved c =
    let s = c.args.self in
    let g = s.geometry in
    let a = g.array in
    let l = c.loop-i in
    let w = plan_step a.width a.disks s.disk l.i c.args.steps a.one_of_ten a.within s.is_disk c.requires.1 c.loop-i-test.true in
    let e = step_cells c.of_step-set.result a.width a.disks _ _ c.of_step-set.ensures ∙ ap₂ (set_of a.width a.disks) w.2 w.3 in
    (c.solve.auto.stripe ∙ l.invariant.0, steps_turn a.width a.disks s.disk g.cell_size l.i w.0 l.stripe c.solve.new.stripe (c.solve.ensures ∙ ap₂ (λ (r : ℕ) (xs : List ℕ). solved g.cell_size (place a.width r s.disk) xs l.stripe) (c.from-row.ensures ∙ w.1) e) ∙ l.invariant.1)

pub returns : goal.returns
returns c =
    let l = c.loop-i in
    let s = c.args.self in
    let a = s.geometry.array in
    sym (steps_last a.width a.disks s.disk a.one_of_ten a.within s.is_disk s.geometry.cell_size l.i l.stripe (omega arith)) ∙ l.invariant.1
