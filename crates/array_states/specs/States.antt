-- The state of one array and reports on it (document 02, ask 12, "A board of all cabinets"): what a
-- report changes, its refusals, and the promise of the call by value, for accepted and refused ones
-- alike.
use Rattle.std.specs.Prelude.{◌≡◌, Bool, not, ℕ, eqb, Result, Ok, Err}
use Rattle.mathematics.specs.Choice.{pick, when, first_of}
use Rattle.liberation.specs.Sets.{array_refusal, disk_refusal}
use Rattle.refusals.specs.declared.answer.Answer.{Answer}
use Rattle.refusals.specs.declared.refusal.Refusal.{Refusal}
use Rattle.refusals.specs.Answers.{Answers}
use Rattle.refusals.specs.Refused.{number_of}
use Rattle.array_states.specs.Lost.{has_bit, lost_after, lost_refusal}
use Rattle.array_states.specs.declared.ArrayState.{ArrayState}

-- the array after a report on its disk d
abbrev pub changed : ArrayState → ℕ → Bool → ArrayState
changed c d back = record { width = c.width; disks = c.disks; lost = lost_after c.lost d back }

-- "A record whose p or k is out of limits, or that holds a lost disk over k + 1, gives refusal 1,
-- 13 or 3"
abbrev pub state_refusal : ArrayState → ℕ
state_refusal c = first_of (array_refusal c.width c.disks) (lost_refusal c.disks c.lost)

-- refusal 21: "a loss of a lost disk or a return of a present one"
abbrev pub again_refusal : ℕ → ℕ → Bool → ℕ
again_refusal w d back = when (pick back (not (has_bit w d)) (has_bit w d)) 21

-- "After that, a reported disk over its cabinet's k + 1 gives 3", and 21 is "last"
abbrev pub disk_report_refusal : ArrayState → ℕ → Bool → ℕ
disk_report_refusal c d back = first_of (disk_refusal c.disks d) (again_refusal c.lost d back)

-- a report on one array refuses by 1, 13, 3 and 21
abbrev pub state_report_refusal : ArrayState → ℕ → Bool → ℕ
state_report_refusal c d back = first_of (state_refusal c) (disk_report_refusal c d back)

-- the answer of a report on one array, as C gets it, and the array after it
pub record StateAnswer : Type 0 where
  pub answer : Answer
  pub state : ArrayState

-- what a report on the array c answers by the array that it gives: c stays where it is refused
abbrev pub state_answer : ArrayState → Result ArrayState Refusal → StateAnswer
state_answer c (Ok m) = record { answer = record { refusal = 0; place = 0 }; state = m }
state_answer c (Err r) = record { answer = record { refusal = number_of r; place = 0 }; state = c }

-- a report on the one array c
pub record StateSays (c : ArrayState) (d : ℕ) (back : Bool) (r : StateAnswer) : Type 0 where
  pub answer : Answers (state_report_refusal c d back) r.answer
  pub state : r.state ≡ pick (eqb (state_report_refusal c d back) 0) (changed c d back) c
