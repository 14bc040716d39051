-- `push_odd`: each turn appends the offset of an odd place, or passes over it; a full list ends the
-- loop.
use mathlib.Core.Path.{sym, ◌∙◌}
use native.Mathlib.Omega.{arith}
use lib.Bits.{and_mask}
use lib.ListN.{get_or}
use Rattle.stripe_cells.proofs.OddPushLaws.{odd_put, odd_skip}
use Rattle.stripe_cells.proofs.odd_marks.push_odd.Goals as goal
use Rattle.stripe_cells.proofs.odd_marks.push_odd.Goals.{then-marks-place-eq1, else-marks-place-eq1}

pub loop-place-preserved : goal.loop-place-preserved
loop-place-preserved g c =
    let l = c.loop-place in
    let a = c.args in
    let low = and_mask (get_or a.marks.now l.place 0) 1 in
    let room = c.len.ensures in
    elim c.if-marks-place-eq1.branch [
      | then-marks-place-eq1 w ↦ odd_put l.invariant (omega arith) (omega arith) (sym low ∙ w.if-marks-place-eq1.true) (w.list-is ∙ w.push.ensures)
      | else-marks-place-eq1 w ↦ rw w.list-is (odd_skip l.invariant (omega arith) (λ e. w.if-marks-place-eq1.false (low ∙ e)))
    ]
