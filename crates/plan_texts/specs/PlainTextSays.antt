-- The promises of the calls that write plans as text (document 02, ask 14), for accepted and
-- refused calls alike.
use Rattle.std.specs.Prelude.{◌≡◌, List, ◌++◌, ℕ, ◌*◌, eqb, length, drop, Result, Ok, Err}
use Rattle.mathematics.specs.Choice.{pick, first_of}
use Rattle.liberation.specs.Sets.{plan_refusal, long_refusal}
use Rattle.liberation.specs.Plans.{Step}
use Rattle.liberation.specs.Judging.{judge, steps_in}
use Rattle.refusals.specs.declared.answer.Answer.{Answer}
use Rattle.plan_texts.specs.Form.Reading.{steps_read}
use Rattle.plan_texts.specs.Form.Plain.{plain}
use Rattle.plan_texts.specs.JudgeTextSays.{text_refusal, all_refusals}
use Rattle.plan_texts.specs.declared.plain.Written.{Written}

-- "It goes to a lent slice of 263 bytes": 1, 13, 3, then 5 for another length
abbrev pub room_refusal : ℕ → ℕ → ℕ → List ℕ → ℕ
room_refusal p k f o = first_of (plan_refusal p k f) (long_refusal 263 o)

-- refusals of each call before any step is looked at, 22 being "tested after 5": of `write_plan`
-- and `plain_text`
abbrev pub write_first : ℕ → ℕ → ℕ → List ℕ → List ℕ → ℕ
write_first p k f bs o = first_of (room_refusal p k f o) (long_refusal (3 * p) bs)

abbrev pub plain_first : ℕ → ℕ → ℕ → List ℕ → List ℕ → ℕ
plain_first p k f t o = first_of (room_refusal p k f o) (text_refusal p t)

-- the steps ss, if accepted, are written in their plain form: "its length is returned and the bytes
-- after it stand"
pub record Writes (n p k f : ℕ) (ss : List Step) (o o' : List ℕ) (r : Written) : Type 0 where
  pub refusal : r.answer.refusal ≡ all_refusals n p k f ss
  pub place : r.answer.place ≡ pick (eqb n 0) (judge p k f ss).place 0
  pub size : r.length ≡ pick (eqb (all_refusals n p k f ss) 0) (length (plain ss)) 0
  pub bytes : o' ≡ pick (eqb (all_refusals n p k f ss) 0) (plain ss ++ drop (length (plain ss)) o) o

-- what C gets of a call that writes n bytes, or is refused and writes none
abbrev pub written_of : Result ℕ Answer → Written
written_of (Ok n) = record { answer = record { refusal = 0; place = 0 }; length = n }
written_of (Err a) = record { answer = a; length = 0 }

-- "Also write an accepted plan in its one plain form"
abbrev pub WriteSays : ℕ → ℕ → ℕ → List ℕ → List ℕ → List ℕ → Written → Type 0
WriteSays p k f bs o o' r = Writes (write_first p k f bs o) p k f (steps_in p bs) o o' r

-- a text to its plain form
abbrev pub PlainSays : ℕ → ℕ → ℕ → List ℕ → List ℕ → List ℕ → Written → Type 0
PlainSays p k f t o o' r = Writes (plain_first p k f t o) p k f (steps_read p t) o o' r
