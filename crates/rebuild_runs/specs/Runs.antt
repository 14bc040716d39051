-- The record of a rebuild run over many stripes (document 01, "Run and space", and document 02, ask
-- 8, skipped stripes): its refusals, how it moves on, and the promise of a skip for accepted and
-- refused calls alike.
use Rattle.std.specs.Prelude.{◌≡◌, Bool, ◌||◌, not, ℕ, ◌+◌, ◌≤◌, ◌<◌, eqb, leb, ltb, Result, Ok, Err}
use Rattle.mathematics.specs.Choice.{pick, when, first_of}
use Rattle.liberation.specs.Sets.{numbers_refusal}
use Rattle.refusals.specs.declared.answer.Answer.{Answer}
use Rattle.refusals.specs.declared.refusal.Refusal.{Refusal}
use Rattle.refusals.specs.Answers.{Answers}
use Rattle.refusals.specs.Refused.{refused}
use Rattle.rebuild_runs.specs.declared.Run.{Run}

-- the refusals that opening has: 1, 13, 2 and 3
abbrev pub run_refusal : Run → ℕ
run_refusal x = numbers_refusal x.shape.width x.shape.disks x.shape.cell_size x.lost

-- "A record whose skipped is above next gives refusal 10 in any call"
abbrev pub skipped_refusal : Run → ℕ
skipped_refusal x = when (ltb x.next x.skipped) 10

-- reading a record refuses by these
abbrev pub read_refusal : Run → ℕ
read_refusal x = first_of (run_refusal x) (skipped_refusal x)

-- refusal 10: "next is N or more, or the stripe number isn't next"
abbrev pub next_refusal : Run → ℕ → ℕ
next_refusal x i = when (leb x.stripes x.next || not (eqb i x.next)) 10

-- a skip of stripe i refuses by 1, 13, 2, 3 and 10: it gives 10 "also where a step would"
abbrev pub skip_refusal : Run → ℕ → ℕ
skip_refusal x i = first_of (read_refusal x) (next_refusal x i)

abbrev pub skip_ok : Run → ℕ → Bool
skip_ok x i = eqb (skip_refusal x i) 0

-- moved on by one stripe, with j more skipped: a step "moves it on by one" (j = 0), a skip "moves
-- next and skipped on by one" (j = 1)
abbrev pub moved_by : Run → ℕ → Run
moved_by x j = record { shape = x.shape; lost = x.lost; stripes = x.stripes; next = x.next + 1; skipped = x.skipped + j }

-- there is a stripe to move over, and no more are skipped then than are past: both numbers stay
-- below 2^32
pub record CanMove (x : Run) (j : ℕ) : Type 0 where
  pub next : x.next < x.stripes
  pub skipped : x.skipped + j ≤ x.next + 1

-- what a call on the record x leaves: the record that it gives, or x where it refuses
abbrev pub run_after : Run → Result Run Refusal → Run
run_after x (Ok y) = y
run_after x (Err _) = x

-- its answer, as C gets it
abbrev pub run_answer : Result Run Refusal → Answer
run_answer r = record { refusal = refused r; place = 0 }

-- a skip of stripe i: x before it and x' after it
pub record SkipSays (x x' : Run) (i : ℕ) (r : Answer) : Type 0 where
  pub answer : Answers (skip_refusal x i) r
  pub run : x' ≡ pick (skip_ok x i) (moved_by x 1) x
