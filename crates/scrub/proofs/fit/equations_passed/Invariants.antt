-- `equations_passed`: the equations so far hold, and the first that does not ends the loop. From
-- `from` on and round every number comes in its turn.
use Rattle.std.proofs.Common.{◌≡◌, true, ◌+◌, ◌%◌}
use Rattle.mathematics.specs.Sums.{all_to}
use Rattle.liberation.specs.Scrub.Survivors.{equation_holds}
use Rattle.scrub.proofs.fit.equations_passed.Given as goal

abbrev pub invariant-loop-passed : goal.invariant-loop-passed
invariant-loop-passed l = let w = l.geometry in all_to l.passed (λ j. equation_holds w.array.width w.array.disks w.cell_size l.disk l.stripe ((l.from + j) % w.array.width)) ≡ true
