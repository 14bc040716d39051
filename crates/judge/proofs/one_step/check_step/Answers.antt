-- `check_step`: the tests go in the order of the refusals, and the first that fails gives the
-- number.
use Rattle.std.proofs.Common.{◌≡◌, Bool, true, false, not, ℕ, List, refl, sym, ◌∙◌, ◌≤◌, arith}
use Rattle.mathematics.specs.Choice.{when, first_of}
use Rattle.mathematics.specs.Lists.{is_in}
use Rattle.liberation.specs.Sets.{lost_in}
use Rattle.liberation.specs.Judging.{step_refusal}
use Rattle.refusals.specs.declared.array.Array.{Array}
use Rattle.parity_sets.specs.declared.set.ParitySet.{ParitySet}
use Rattle.parity_sets.specs.declared.set.ParitySet.TheVariants.{Row, Diagonal}
use Rattle.parity_sets.specs.ParitySets.{kind_of, cells_of}
use Rattle.judge.specs.declared.one_step.Step.{Step}
use Rattle.judge.specs.Steps.{AreRebuilt, IsWithin, step_of}
use Rattle.judge.proofs.StepRefusals.{there, refusal_is}
use Rattle.judge.proofs.one_step.check_step.Goals as goal

kind_most : (s : ParitySet) → kind_of s ≤ 1
kind_most (Row i) = omega arith
kind_most (Diagonal i) = omega arith

-- the refusal by the three tests: held, rebuilt, the others there
tested : (g : Array) (f : ℕ) (s : Step) (rebuilt : List Bool) (ds : List ℕ) (b c d : Bool) → IsWithin g.width s → AreRebuilt rebuilt ds → b ≡ is_in s.row (lost_in g.width f (cells_of g.width g.disks s.set)) → c ≡ is_in s.row ds → d ≡ there g.width f s.row ds (cells_of g.width g.disks s.set) → first_of (when (not b) 7) (first_of (when c 8) (when (not d) 9)) ≡ step_refusal g.width g.disks f ds (step_of s)
tested g f s rebuilt ds b c d w r = refusal_is g.width g.disks f ds (step_of s) b c d w.row w.number (kind_most s.set)

pub returns-then-not-holds_row : goal.returns-then-not-holds_row
returns-then-not-holds_row c =
    λ ds d.
    let a = c.args in
    tested a.array a.lost a.step a.rebuilt ds false _ _ c.requires.1 d (sym c.if-not-holds_row.true ∙ c.holds_row.ensures) refl refl

pub returns-then-rebuilt-step : goal.returns-then-rebuilt-step
returns-then-rebuilt-step c =
    λ ds d.
    let a = c.args in
    tested a.array a.lost a.step a.rebuilt ds true true _ c.requires.1 d (sym c.if-not-holds_row.false ∙ c.holds_row.ensures) (sym c.if-rebuilt-step.true ∙ d a.step.row (omega (arith, c.requires.1.row, a.array.widest))) refl

pub returns-then-not-others_there : goal.returns-then-not-others_there
returns-then-not-others_there c =
    λ ds d.
    let a = c.args in
    tested a.array a.lost a.step a.rebuilt ds true false false c.requires.1 d (sym c.if-not-holds_row.false ∙ c.holds_row.ensures) (sym c.if-rebuilt-step.false ∙ d a.step.row (omega (arith, c.requires.1.row, a.array.widest))) (sym c.if-not-others_there.true ∙ c.others_there.ensures ds d)

pub returns : goal.returns
returns c =
    λ ds d.
    let a = c.args in
    tested a.array a.lost a.step a.rebuilt ds true false true c.requires.1 d (sym c.if-not-holds_row.false ∙ c.holds_row.ensures) (sym c.if-rebuilt-step.false ∙ d a.step.row (omega (arith, c.requires.1.row, a.array.widest))) (sym c.if-not-others_there.false ∙ c.others_there.ensures ds d)
