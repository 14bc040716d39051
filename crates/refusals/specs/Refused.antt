-- The numbers of refusals (document 01, "Reasons to turn a call away"), and of what a test or a call
-- gives.
use Rattle.std.specs.Prelude.{ℕ, Result, Ok, Err}
use Rattle.refusals.specs.declared.answer.Answer.{Answer}
use Rattle.refusals.specs.declared.refusal.Refusal.{Refusal}
use Rattle.refusals.specs.declared.refusal.Refusal.TheVariants.{BadWidth, BadCellSize, NoSuchDisk, SameDisk, BadLength, StepRange, StepSet, StepRepeated, StepEarly, NotNext, PackageTooLong, BadText, BadDisks, TooManyFiles, NoSuchRow, BadRate, TooManyBytes, NoSuchServer, SurvivorsDisagree, NoSuchArray, DiskUnchanged, BadPlanText, Undetermined, DoesNotFit, BadUnit, NoSuchPlace}

-- the number of a refusal
abbrev pub number_of : Refusal → ℕ
number_of BadWidth = 1
number_of BadCellSize = 2
number_of NoSuchDisk = 3
number_of SameDisk = 4
number_of BadLength = 5
number_of StepRange = 6
number_of StepSet = 7
number_of StepRepeated = 8
number_of StepEarly = 9
number_of NotNext = 10
number_of PackageTooLong = 11
number_of BadText = 12
number_of BadDisks = 13
number_of TooManyFiles = 14
number_of NoSuchRow = 15
number_of BadRate = 16
number_of TooManyBytes = 17
number_of NoSuchServer = 18
number_of SurvivorsDisagree = 19
number_of NoSuchArray = 20
number_of DiskUnchanged = 21
number_of BadPlanText = 22
number_of Undetermined = 23
number_of DoesNotFit = 24
number_of BadUnit = 25
number_of NoSuchPlace = 26

-- the number that a test or a call gives: that of its refusal, 0 where it does not refuse
abbrev pub refused : {T : Type 0} → Result T Refusal → ℕ
refused (Ok _) = 0
refused (Err r) = number_of r

-- the answer of a call that gives this, as C gets it
abbrev pub answer_of : Result Unit Refusal → Answer
answer_of r = record { refusal = refused r; place = 0 }
