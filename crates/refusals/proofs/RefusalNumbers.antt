-- A refusal has a number, so a call that is refused is not an accepted one.
use mathlib.Core.Path.{◌≡◌}
use mathlib.Core.Bool.{false≢true}
use Prim.Native.Nat.{ℕ}
use native.Mathlib.Omega.{arith}
use lib.Dec.{eqb}
use Rattle.std.proofs.Common.{Result, Ok, Err}
use Rattle.std.specs.Result.{IsErr}
use Rattle.mathematics.specs.Choice.{pick}
use Rattle.mathematics.proofs.ChoiceLaws.{pick_refused}
use Rattle.refusals.specs.declared.refusal.Refusal.{Refusal}
use Rattle.refusals.specs.declared.refusal.Refusal.TheVariants.{BadWidth, BadCellSize, NoSuchDisk, SameDisk, BadLength, StepRange, StepSet, StepRepeated, StepEarly, NotNext, PackageTooLong, BadText, BadDisks, TooManyFiles, NoSuchRow, BadRate, TooManyBytes, NoSuchServer, SurvivorsDisagree, NoSuchArray, DiskUnchanged, BadPlanText, Undetermined, DoesNotFit, BadUnit, NoSuchPlace}
use Rattle.refusals.specs.Refused.{number_of, refused}

pub number_some : (r : Refusal) → number_of r ≡ 0 → ⊥
number_some BadWidth e = absurd (omega arith)
number_some BadCellSize e = absurd (omega arith)
number_some NoSuchDisk e = absurd (omega arith)
number_some SameDisk e = absurd (omega arith)
number_some BadLength e = absurd (omega arith)
number_some StepRange e = absurd (omega arith)
number_some StepSet e = absurd (omega arith)
number_some StepRepeated e = absurd (omega arith)
number_some StepEarly e = absurd (omega arith)
number_some NotNext e = absurd (omega arith)
number_some PackageTooLong e = absurd (omega arith)
number_some BadText e = absurd (omega arith)
number_some BadDisks e = absurd (omega arith)
number_some TooManyFiles e = absurd (omega arith)
number_some NoSuchRow e = absurd (omega arith)
number_some BadRate e = absurd (omega arith)
number_some TooManyBytes e = absurd (omega arith)
number_some NoSuchServer e = absurd (omega arith)
number_some SurvivorsDisagree e = absurd (omega arith)
number_some NoSuchArray e = absurd (omega arith)
number_some DiskUnchanged e = absurd (omega arith)
number_some BadPlanText e = absurd (omega arith)
number_some Undetermined e = absurd (omega arith)
number_some DoesNotFit e = absurd (omega arith)
number_some BadUnit e = absurd (omega arith)
number_some NoSuchPlace e = absurd (omega arith)

-- a call that is refused
pub refused_some : {T : Type 0} (r : Result T Refusal) → IsErr r → refused r ≡ 0 → ⊥
refused_some (Ok v) i e = absurd (false≢true i)
refused_some (Err r) i e = number_some r e

-- what is picked by its number
pub refused_pick : {A T : Type 0} (r : Result T Refusal) (n : ℕ) (x y : A) → IsErr r → refused r ≡ n → y ≡ pick (eqb n 0) x y
refused_pick r n x y i e = pick_refused (refused r) n x y e (refused_some r i)
