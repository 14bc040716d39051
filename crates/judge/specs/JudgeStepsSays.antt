-- The promise of `judge_steps` (document 01, "A plan for one lost disk"), for a plan of the right
-- form: refusals 6 to 9 with the step as their place, or the read count.
use Rattle.std.specs.Prelude.{◌≡◌, List, ℕ, eqb}
use Rattle.mathematics.specs.Choice.{pick}
use Rattle.liberation.specs.Plans.{read_count}
use Rattle.liberation.specs.Judging.{judge, steps_in}
use Rattle.judge.specs.declared.all_steps.Judged.{Judged}

pub record StepsSay (p k f : ℕ) (bs : List ℕ) (r : Judged) : Type 0 where
  pub refusal : r.answer.refusal ≡ (judge p k f (steps_in p bs)).number
  pub place : r.answer.place ≡ (judge p k f (steps_in p bs)).place
  pub reads : r.reads ≡ pick (eqb (judge p k f (steps_in p bs)).number 0) (read_count p k f (steps_in p bs)) 0
