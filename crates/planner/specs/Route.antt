-- Routes by number: 0 undecided, 1 its row set, 2 a diagonal.
use Rattle.std.specs.Prelude.{ℕ}
use Rattle.planner.specs.declared.routes.Route.{Route}
use Rattle.planner.specs.declared.routes.Route.TheVariants.{Undecided, Row, Diagonal}

abbrev pub route_number : Route → ℕ
route_number Undecided = 0
route_number Row = 1
route_number Diagonal = 2
