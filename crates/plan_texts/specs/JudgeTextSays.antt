-- The promise of the judge of a text (document 02, ask 14), for accepted and refused calls alike.
use Rattle.std.specs.Prelude.{◌≡◌, not, List, ℕ, eqb}
use Rattle.mathematics.specs.Choice.{pick, when, first_of}
use Rattle.liberation.specs.Sets.{plan_refusal}
use Rattle.liberation.specs.Plans.{Step, read_count}
use Rattle.liberation.specs.Judging.{judge}
use Rattle.judge.specs.declared.all_steps.Judged.{Judged}
use Rattle.plan_texts.specs.Form.Reading.{readable, steps_read}

-- "22: text not of this form or not p lines"
abbrev pub text_refusal : ℕ → List ℕ → ℕ
text_refusal p t = when (not (readable p t)) 22

-- refusals before any step is looked at
abbrev pub judge_first : ℕ → ℕ → ℕ → List ℕ → ℕ
judge_first p k f t = first_of (plan_refusal p k f) (text_refusal p t)

-- all refusals of a call on the steps ss, n coming before them: "with refusals 6 to 9 as they are"
abbrev pub all_refusals : ℕ → ℕ → ℕ → ℕ → List Step → ℕ
all_refusals n p k f ss = first_of n (judge p k f ss).number

-- the judge's answer for the steps ss
pub record Judges (n p k f : ℕ) (ss : List Step) (r : Judged) : Type 0 where
  pub refusal : r.answer.refusal ≡ all_refusals n p k f ss
  pub place : r.answer.place ≡ pick (eqb n 0) (judge p k f ss).place 0
  pub reads : r.reads ≡ pick (eqb (all_refusals n p k f ss) 0) (read_count p k f ss) 0

-- "A file so read goes to the judge"
abbrev pub JudgeTextSays : ℕ → ℕ → ℕ → List ℕ → Judged → Type 0
JudgeTextSays p k f t r = Judges (judge_first p k f t) p k f (steps_read p t) r
