-- `value_of`: digit by digit. The invariant: the value is that of the digits so far.
use mathlib.Core.Path.{◌≡◌}
use Prim.Native.Nat.{◌<◌}
use lib.ListN.{take}
use Rattle.plan_texts.specs.Form.Reading.{value_from}
use Rattle.plan_texts.proofs.numbers.value_of.Given as goal

abbrev pub invariant-loop-digit : goal.invariant-loop-digit
invariant-loop-digit l = (l.value < 256) × (l.value ≡ value_from 0 (take l.digit-index l.digits))
