-- What a planner returns, as C gets it.
use Rattle.std.specs.Prelude.{Result, Ok, Err, replicate}
use Rattle.refusals.specs.declared.refusal.Refusal.{Refusal}
use Rattle.refusals.specs.Refused.{number_of}
use Rattle.planner.specs.declared.Plan.{Plan}

-- the plan, or its refusal with zeros
abbrev pub plan_in : Result Plan Refusal → Plan
plan_in (Ok r) = r
plan_in (Err e) = record {
  answer = record { refusal = number_of e; place = 0 };
  steps = record { rows = replicate 31 0; kinds = replicate 31 0; numbers = replicate 31 0 };
  routes = 0;
  reads = 0;
}
