-- What the judge returns, as C gets it.
use Rattle.std.specs.Prelude.{ℕ, Result, Ok, Err}
use Rattle.refusals.specs.declared.answer.Answer.{Answer}
use Rattle.refusals.specs.Refused.{number_of}
use Rattle.judge.specs.declared.refusal.PlanRefusal.{PlanRefusal}
use Rattle.judge.specs.declared.all_steps.Judged.{Judged}

-- the answer of a call that gives this: its refusal with its place, or none
abbrev pub plan_answer : {T : Type 0} → Result T PlanRefusal → Answer
plan_answer (Ok _) = record { refusal = 0; place = 0 }
plan_answer (Err e) = record { refusal = number_of e.refusal; place = e.place }

-- with the read count, which is 0 on a refusal
abbrev pub judged_of : Result ℕ PlanRefusal → Judged
judged_of (Ok n) = record { answer = record { refusal = 0; place = 0 }; reads = n }
judged_of (Err e) = record { answer = record { refusal = number_of e.refusal; place = e.place }; reads = 0 }
