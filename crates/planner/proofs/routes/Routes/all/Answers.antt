-- `all`: no row takes a diagonal, so no bit is set.
use Rattle.std.proofs.Common.{refl}
use Rattle.mathematics.proofs.ListLaws.{take_replicate}
use Rattle.planner.specs.Route.{route_number}
use Rattle.planner.proofs.RouteLaws.{word_nothing}
use Rattle.planner.proofs.routes.Routes.all.Goals as goal

pub invariant_of-result : goal.invariant_of-result
invariant_of-result c = let a = c.args in record { long = refl; word_is = word_nothing a.array.width (route_number a.route) a.array.widest c.requires }

pub returns : goal.returns
returns c = let a = c.args in (refl, take_replicate a.array.width 31 (route_number a.route) a.array.widest)
