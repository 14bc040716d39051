-- `minus_square`: the width modulo 4 decides.
use Rattle.std.proofs.Common.{◌≡◌, Bool, true, false, refl, sym, ◌∙◌}
use mir.Val.{bool_byte}
use Rattle.mathematics.specs.Choice.{when}
use Rattle.planner.proofs.SquareSteps.{minus_is}
use Rattle.planner.proofs.balanced_routes.minus_square.Goals as goal

-- a flag as a number
counted : (b : Bool) → bool_byte b ≡ when b 1
counted true = refl
counted false = refl

pub returns : goal.returns
returns c = c.from.ensures ∙ counted _ ∙ sym (minus_is c.args.array.width c.args.array.one_of_ten)
