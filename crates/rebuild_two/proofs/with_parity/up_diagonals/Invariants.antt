-- `up_diagonals`: each turn does the next step. The invariant: the steps still to come, done to the
-- stripe as it is, give what all steps give to the stripe as it was.
use mathlib.Core.Path.{◌≡◌}
use lib.ListN.{length}
use Rattle.liberation.specs.Stripes.Stripes.{followed}
use Rattle.liberation.specs.TwoDisks.Pairs.{up_diagonals}
use Rattle.rebuild_two.proofs.UpLaws.{up_rest}
use Rattle.rebuild_two.proofs.with_parity.up_diagonals.Given as goal

abbrev pub invariant-loop-row : goal.invariant-loop-row
invariant-loop-row l = let w = l.array.width in let k = l.array.disks in let s = l.geometry.cell_size in (length l.stripe ≡ length l.initial.stripe) × (up_rest w k s l.disk l.row l.stripe ≡ followed w k s l.disk (up_diagonals w w l.disk 0) l.initial.stripe)
