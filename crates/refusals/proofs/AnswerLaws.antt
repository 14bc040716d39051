-- Answers by a refusal number that a test gave, under another name for it.
use mathlib.Core.Path.{◌≡◌, sym, ap₂, ◌∙◌}
use Prim.Native.Nat.{ℕ}
use Rattle.refusals.specs.declared.answer.Answer.{Answer}
use Rattle.refusals.specs.Answers.{Answers}

pub answers_as : (n m : ℕ) (a : Answer) → n ≡ m → Answers n a → Answers m a
answers_as n m a e k = record { refusal = k.refusal ∙ e; place = k.place }

-- a call that answers 0 was not refused
pub answers_none : (n : ℕ) (a : Answer) → Answers n a → a.refusal ≡ 0 → n ≡ 0
answers_none n a k z = sym k.refusal ∙ z

-- the answer as a record
pub answer_is : (n : ℕ) (a : Answer) → Answers n a → a ≡ record { refusal = n; place = 0 }
answer_is n a k = ap₂ (λ (r p : ℕ). record { refusal = r; place = p }) k.refusal k.place
