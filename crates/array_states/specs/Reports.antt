-- Reports on a list of arrays (document 02, ask 12, "A board of all cabinets"): their refusals, the
-- list after one, the four totals, and the promise of the call, for accepted and refused ones
-- alike.
use Rattle.std.specs.Prelude.{◌≡◌, Bool, ◌||◌, List, [], ◌∷◌, ℕ, ◌+◌, eqb, leb, ltb, length, get_or, set, Result, Ok, Err}
use Rattle.std.specs.Int.Count.{ones}
use Rattle.mathematics.specs.Choice.{pick, when, first_of}
use Rattle.refusals.specs.declared.refusal.Refusal.{Refusal}
use Rattle.refusals.specs.Answers.{Answers}
use Rattle.refusals.specs.Refused.{number_of}
use Rattle.array_states.specs.declared.ArrayState.{ArrayState}
use Rattle.array_states.specs.States.{changed, state_refusal, disk_report_refusal}
use Rattle.array_states.specs.declared.totals.Totals.{Totals}
use Rattle.array_states.specs.Scanning.{no_array, no_totals}
use Rattle.array_states.specs.declared.board.Board.{Board}

-- "wherever it is in the list, the earliest such record deciding"
unfoldable pub list_refusal : List ArrayState → ℕ
list_refusal [] = 0
list_refusal (c ∷ cs) = first_of (state_refusal c) (list_refusal cs)

-- refusal 20: "cabinet number, from 0, beyond the list or list over 64"
abbrev pub number_refusal : ℕ → ℕ → ℕ
number_refusal n i = when (leb n i || ltb 64 n) 20

-- a report on array i of a list refuses by 20, 1, 13, 3 and 21: "20 comes first of all, 21 last"
abbrev pub report_refusal : List ArrayState → ℕ → ℕ → Bool → ℕ
report_refusal xs i d back = first_of (number_refusal (length xs) i) (first_of (list_refusal xs) (disk_report_refusal (get_or xs i no_array) d back))

abbrev pub report_ok : List ArrayState → ℕ → ℕ → Bool → Bool
report_ok xs i d back = eqb (report_refusal xs i d back) 0

-- the list after a report on array i: "the rest of the list stands"
abbrev pub list_after : List ArrayState → ℕ → ℕ → Bool → List ArrayState
list_after xs i d back = set xs i (changed (get_or xs i no_array) d back)

-- how many arrays of a list have so many lost disks as f tells
unfoldable pub how_many : (ℕ → Bool) → List ArrayState → ℕ
how_many f [] = 0
how_many f (c ∷ cs) = when (f (ones c.lost)) 1 + how_many f cs

-- "how many can bear two more losses, one more, or none, and how many are past saving": these have
-- lost no disk, one, two, and "three or more"
abbrev pub totals_of : List ArrayState → Totals
totals_of xs = record { optimal = how_many (λ n. eqb n 0) xs; degraded = how_many (λ n. eqb n 1) xs; critical = how_many (λ n. eqb n 2) xs; failed = how_many (λ n. leb 3 n) xs }

-- a report on array i of the list xs, which is ys after it: the totals "are those that a fresh
-- count over the list then gives"
pub record ReportSays (xs : List ArrayState) (i d : ℕ) (back : Bool) (ys : List ArrayState) (r : Board) : Type 0 where
  pub answer : Answers (report_refusal xs i d back) r.answer
  pub list : ys ≡ pick (report_ok xs i d back) (list_after xs i d back) xs
  pub totals : r.totals ≡ pick (report_ok xs i d back) (totals_of ys) no_totals

-- what a report answers by the totals that it gives, or its refusal
abbrev pub board_of : Result Totals Refusal → Board
board_of (Ok t) = record { answer = record { refusal = 0; place = 0 }; totals = t }
board_of (Err r) = record { answer = record { refusal = number_of r; place = 0 }; totals = no_totals }
