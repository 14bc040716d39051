-- `copy_film`: a turn copies what is left of a cell, or of out; the place steps on, and from the last
-- place to the first of the next stripe. Until all is copied the cell and the byte in it are those of
-- the film's byte that comes next.
use mathlib.Core.Path.{◌≡◌}
use mathlib.Core.Logic.{◌⊎◌}
use Prim.Native.Nat.{◌+◌, ◌-◌, ◌*◌, ◌≤◌, ◌<◌}
use lib.ListN.{length, take, drop}
use Rattle.liberation.specs.Sets.{place}
use Rattle.unit_film.specs.FilmOrder.{in_order}
use Rattle.unit_film.proofs.film.copy_film.Given as goal

abbrev pub invariant-loop-done : goal.invariant-loop-done
invariant-loop-done l = (l.done ≤ l.all)
    × (length l.out ≡ l.all)
    × (l.x < l.places)
    × (l.byte < l.size)
    × ((l.done ≡ l.all) ⊎ (place l.places l.x l.stripe * l.size + l.byte ≡ l.from + l.done))
    × (take l.done l.out ≡ take l.done (drop l.from (in_order l.places l.size l.stripes l.cells)))

abbrev pub decreases-loop-done : goal.decreases-loop-done
decreases-loop-done l = l.all - l.done
