-- The promise of `read_list`, for accepted and refused calls alike. p is the width, k the number of
-- data disks, f the lost disk.
use Rattle.std.specs.Prelude.{◌≡◌, List, ℕ, ◌+◌, ◌*◌, eqb}
use Rattle.mathematics.specs.Choice.{pick, first_of}
use Rattle.liberation.specs.Sets.{plan_refusal, long_refusal}
use Rattle.liberation.specs.Plans.{read_list}
use Rattle.refusals.specs.declared.answer.Answer.{Answer}
use Rattle.refusals.specs.Answers.{Answers}

-- the read list refuses by 1, 13, 3 and 5
abbrev pub read_list_refusal : ℕ → ℕ → ℕ → List ℕ → ℕ
read_list_refusal p k f o = first_of (plan_refusal p k f) (long_refusal (p * (k + 2)) o)

pub record ListSays (p k f : ℕ) (o o' : List ℕ) (r : Answer) : Type 0 where
  pub answer : Answers (read_list_refusal p k f o) r
  pub list : o' ≡ pick (eqb (read_list_refusal p k f o) 0) (read_list p k f) o
