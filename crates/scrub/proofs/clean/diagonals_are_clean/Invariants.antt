-- `diagonals_are_clean`: the sets so far are clean, and the first that is not ends the loop.
use Rattle.std.proofs.Common.{◌≡◌, true}
use Rattle.mathematics.specs.Sums.{all_to}
use Rattle.liberation.specs.Stripes.Stripes.{set_clean}
use Rattle.scrub.proofs.clean.diagonals_are_clean.Given as goal

abbrev pub invariant-loop-number : goal.invariant-loop-number
invariant-loop-number l = let w = l.geometry in all_to l.number (λ j. set_clean w.array.width w.array.disks w.cell_size l.stripe 1 j) ≡ true
