-- `first_fit`: no disk so far fits, and the first that does ends the loop.
use Rattle.std.proofs.Common.{◌≡◌}
use Rattle.liberation.specs.Scrub.Survivors.{suspect}
use Rattle.scrub.proofs.FitLaws.{first_on}
use Rattle.scrub.proofs.suspects.first_fit.Given as goal

abbrev pub invariant-loop-disk : goal.invariant-loop-disk
invariant-loop-disk l = let w = l.geometry in first_on w.array.width w.array.disks w.cell_size l.stripe l.disk ≡ suspect w.array.width w.array.disks w.cell_size l.stripe
