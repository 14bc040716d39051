-- What the judge of a text answers: the bytes that are read name the steps of the text, and with
-- nothing refused before them the judge's answer is that of the steps.
use mathlib.Core.Path.{◌≡◌, sym, ap, ap₂, ◌∙◌}
use mathlib.Core.List.{List}
use Prim.Native.Nat.{ℕ, ◌*◌}
use native.Mathlib.Omega.{arith}
use lib.Dec.{eqb}
use lib.ListN.{length}
use Rattle.mathematics.specs.Choice.{pick, first_of}
use Rattle.mathematics.proofs.ChoiceLaws.{first_next, first_none}
use Rattle.liberation.specs.Sets.{plan_refusal, long_refusal}
use Rattle.liberation.specs.Plans.{Step, read_count}
use Rattle.liberation.specs.Judging.{judge, steps_in}
use Rattle.liberation.proofs.RefusalLaws.{long_accepted}
use Rattle.judge.specs.declared.all_steps.Judged.{Judged}
use Rattle.judge.specs.JudgeSays.{form_refusal, JudgeSays}
use Rattle.plan_texts.specs.Form.Reading.{steps_read, step_bytes}
use Rattle.plan_texts.proofs.Form.StepwiseLaws.{steps_count, bytes_length, bytes_steps}
use Rattle.plan_texts.specs.JudgeTextSays.{text_refusal, judge_first, Judges, JudgeTextSays}

-- the bytes that were read are p steps, those of the text
pub read_long : (p : ℕ) (t bs : List ℕ) → bs ≡ step_bytes (steps_read p t) → length bs ≡ 3 * p
read_long p t bs e = omega (arith, ap length e, bytes_length (steps_read p t), steps_count p t)

pub read_steps : (p : ℕ) (t bs : List ℕ) → bs ≡ step_bytes (steps_read p t) → steps_in p bs ≡ steps_read p t
read_steps p t bs e = ap₂ (λ (n : ℕ) (x : List ℕ). steps_in n x) (sym (steps_count p t)) e ∙ bytes_steps (steps_read p t)

-- the judge's answer for steps whose bytes are bs, nothing being refused before them
pub judges_steps : (p k f : ℕ) (ss : List Step) (bs : List ℕ) (r : Judged) → plan_refusal p k f ≡ 0 → length bs ≡ 3 * p → steps_in p bs ≡ ss → JudgeSays p k f bs r → Judges 0 p k f ss r
judges_steps p k f ss bs r q l e j =
    let form : form_refusal p k f bs ≡ 0 = sym (first_next 0 (plan_refusal p k f) (long_refusal (3 * p) bs) q (sym (long_accepted (3 * p) bs l))) in
    record {
      refusal = j.refusal ∙ ap₂ (λ (m : ℕ) (x : List Step). first_of m (judge p k f x).number) form e;
      place = j.place ∙ ap₂ (λ (m : ℕ) (x : List Step). pick (eqb m 0) (judge p k f x).place 0) form e;
      reads = j.reads ∙ ap₂ (λ (m : ℕ) (x : List Step). pick (eqb (first_of m (judge p k f x).number) 0) (read_count p k f x) 0) form e;
    }

-- of a text that is read
pub judges_text : (p k f : ℕ) (t bs : List ℕ) (r : Judged) → 0 ≡ judge_first p k f t → bs ≡ step_bytes (steps_read p t) → JudgeSays p k f bs r → JudgeTextSays p k f t r
judges_text p k f t bs r z e j =
    rw (sym z) (judges_steps p k f (steps_read p t) bs r (first_none (plan_refusal p k f) (text_refusal p t) (sym z)).0 (read_long p t bs e) (read_steps p t bs e) j)
