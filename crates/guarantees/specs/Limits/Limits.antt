-- The limits of a call, in the order in which they are tested, each with the refusal outside it
-- (document 01, "Reasons to turn a call away"): "A refusal returns its number and a place".
use Rattle.std.specs.Prelude.{◌≡◌, ◌⊎◌, ℕ, ◌<◌}
use Rattle.refusals.specs.declared.answer.Answer.{Answer}

-- refusal n with a place, outside a limit
pub data Limits : Type 1 where
  none : Limits
  limit : (n place : ℕ) → Type 0 → Limits → Limits

-- one limit, whose refusal has no place
abbrev pub by : ℕ → Type 0 → Limits
by n L = limit n 0 L none

-- the limits ls, tested before ks
infixr 10 ◌then◌
abbrev pub ◌then◌ : Limits → Limits → Limits
none then ks = ks
(limit n at L ls) then ks = limit n at L (ls then ks)

-- within all of them
abbrev pub Within : Limits → Type 0
Within none = Unit
Within (limit n at L ls) = L × Within ls

-- refused by number n at a place; the number 0 stands for no refusal
pub record RefusedBy (n place number at : ℕ) : Type 0 where
  pub number_is : number ≡ n
  pub place_is : at ≡ place
  pub some : 0 < number

-- Either a limit holds and the ones after it decide, or it does not and its own refusal is the
-- answer; 0 where all hold.
abbrev pub Cases : Limits → ℕ → ℕ → Type 0
Cases none number at = (number ≡ 0) × (at ≡ 0)
Cases (limit n place L ls) number at = (L × Cases ls number at) ⊎ ((L → ⊥) × RefusedBy n place number at)

-- the number and the place of an answer are those of the first limit that does not hold
pub record Decides (ls : Limits) (number at : ℕ) : Type 0 where
  pub cases : Cases ls number at

-- Demand 1 of a call with these limits that answers a: S is what holds of lent memory, records and
-- results of a refused call.
pub record Refuses (ls : Limits) (S : Type 0) (a : Answer) : Type 0 where
  -- refused "by a number from document 01", the first that applies
  pub decides : Decides ls a.refusal a.place
  -- "Every other input is accepted", and no more
  pub accepts : Within ls → a.refusal ≡ 0
  pub accepted : a.refusal ≡ 0 → Within ls
  -- "with all lent memory as before the call"
  pub stands : (a.refusal ≡ 0 → ⊥) → S
