-- The promise of `judge_plan` (document 01, "A plan for one lost disk"), for accepted and refused
-- plans alike: refusals 1, 13, 3, 5, then 6 to 9 with the step as their place.
use Rattle.std.specs.Prelude.{◌≡◌, List, ℕ, ◌*◌, eqb}
use Rattle.mathematics.specs.Choice.{pick, first_of}
use Rattle.liberation.specs.Sets.{plan_refusal, long_refusal}
use Rattle.liberation.specs.Plans.{read_count}
use Rattle.liberation.specs.Judging.{Judged as Verdict, judge, steps_in}
use Rattle.refusals.specs.declared.answer.Answer.{Answer}
use Rattle.judge.specs.declared.all_steps.Judged.{Judged}

-- refusals before any step is looked at
abbrev pub form_refusal : ℕ → ℕ → ℕ → List ℕ → ℕ
form_refusal p k f bs = first_of (plan_refusal p k f) (long_refusal (3 * p) bs)

-- all refusals
abbrev pub judge_refusal : ℕ → ℕ → ℕ → List ℕ → ℕ
judge_refusal p k f bs = first_of (form_refusal p k f bs) (judge p k f (steps_in p bs)).number

-- a call that refuses by n before any step is looked at, 0 for none, or by what the judge says of
-- the steps, with its place: the lent memory o becomes o', the new one, or stays as it was on a
-- refusal
pub record DecidesOn (n : ℕ) (j : Verdict) (new o o' : List ℕ) (r : Answer) : Type 0 where
  pub refusal : r.refusal ≡ first_of n j.number
  pub place : r.place ≡ pick (eqb n 0) j.place 0
  pub lent : o' ≡ pick (eqb (first_of n j.number) 0) new o

-- "gives its read count or a refusal"
pub record JudgeSays (p k f : ℕ) (bs : List ℕ) (r : Judged) : Type 0 where
  pub refusal : r.answer.refusal ≡ judge_refusal p k f bs
  pub place : r.answer.place ≡ pick (eqb (form_refusal p k f bs) 0) (judge p k f (steps_in p bs)).place 0
  pub reads : r.reads ≡ pick (eqb (judge_refusal p k f bs) 0) (read_count p k f (steps_in p bs)) 0
