-- `lightest`: of the unknowns looked at one that is left is chosen, or none is left.
use mathlib.Core.Path.{sym, ◌∙◌}
use native.Mathlib.Omega.{arith}
use lib.ListN.{length}
use Rattle.rebuild_cells.proofs.NearestLoops.{chosen_off, chosen_kept}
use Rattle.rebuild_cells.proofs.nearest.lightest.Goals as goal
use Rattle.rebuild_cells.proofs.nearest.lightest.Goals.{then-has_bit+then-is_lighter, else-has_bit, else-has_bit-via-then-has_bit+else-is_lighter, else-has_bit-via-else-has_bit}

pub loop-x-preserved : goal.loop-x-preserved
loop-x-preserved c =
    let l = c.loop-x in
    let n = length c.args.near.now in
    elim c.if-has_bit.branch [
      | then-has_bit+then-is_lighter w ↦ rw w.best-is (omega arith, sym c.has_bit.ensures ∙ w.if-has_bit.true)
      | else-has_bit w ↦ rw w.best-is (elim w.else-has_bit.branch [
        | else-has_bit-via-then-has_bit+else-is_lighter v ↦ chosen_kept n l.x c.args.left l.best (v.is_lighter.ensures v.if-is_lighter.false) l.invariant
        | else-has_bit-via-else-has_bit v ↦ chosen_off n l.x c.args.left l.best (sym c.has_bit.ensures ∙ v.if-has_bit.false) l.invariant
      ])
    ]
