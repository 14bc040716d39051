-- The promise of `plan_list`, for accepted and refused calls alike. p is the width, k the number of
-- data disks, f the lost disk, bs the plan, o the list.
use Rattle.std.specs.Prelude.{List, ℕ, ◌+◌, ◌*◌}
use Rattle.mathematics.specs.Choice.{first_of}
use Rattle.liberation.specs.Sets.{plan_refusal, long_refusal}
use Rattle.liberation.specs.Plans.{list_of}
use Rattle.liberation.specs.Judging.{judge, steps_in}
use Rattle.refusals.specs.declared.answer.Answer.{Answer}
use Rattle.judge.specs.JudgeSays.{DecidesOn}

-- refusals before any step is looked at: 1, 13, 3, 5
abbrev pub lists_refusal : ℕ → ℕ → ℕ → List ℕ → List ℕ → ℕ
lists_refusal p k f bs o = first_of (plan_refusal p k f) (first_of (long_refusal (3 * p) bs) (long_refusal (p * (k + 2)) o))

-- then the judge's: the list o becomes o', that of the plan, or stays as it was on a refusal
abbrev pub PlanListSays : ℕ → ℕ → ℕ → List ℕ → List ℕ → List ℕ → Answer → Type 0
PlanListSays p k f bs o o' r = DecidesOn (lists_refusal p k f bs o) (judge p k f (steps_in p bs)) (list_of p k f (steps_in p bs)) o o' r
