-- Answers (document 01, "Reasons to turn a call away"): "A refusal returns its number and a place:
-- the step counted from 0 for 6 to 9, else 0."
use Rattle.std.specs.Prelude.{◌≡◌, ℕ}
use Rattle.refusals.specs.declared.answer.Answer.{Answer}

-- a refuses by n, or not where n is 0, and has no place
pub record Answers (n : ℕ) (a : Answer) : Type 0 where
  pub refusal : a.refusal ≡ n
  pub place : a.place ≡ 0
