-- Routes in an array, by the numbers of the definitions.
use Rattle.std.specs.Prelude.{◌≡◌, List, ℕ, take, map}
use Rattle.planner.specs.declared.routes.Routes.{Routes}
use Rattle.planner.specs.Route.{route_number}

-- the routes of the array's rows
abbrev pub rows_in : Routes → List ℕ
rows_in r = take r.array.width (map route_number r.routes)

-- routes of the same array that are rs
pub record Becomes (old new : Routes) (rs : List ℕ) : Type 0 where
  pub array : new.array ≡ old.array
  pub rows : rows_in new ≡ rs
