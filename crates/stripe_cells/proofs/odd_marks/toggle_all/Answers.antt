-- `toggle_all`: each turn toggles the mark of the next place. The invariant: the places still to
-- come, toggled in the marks as they are, give what all give in the marks as they were.
use mathlib.Core.Path.{refl, ◌∙◌}
use native.Mathlib.Omega.{arith}
use lib.Bits.{bit_xor}
use lib.ListN.{get_or, length-set}
use Rattle.stripe_cells.proofs.OddLaws.{toggled_next, toggled_end}
use Rattle.stripe_cells.proofs.odd_marks.toggle_all.Goals as goal

pub loop-place-preserved : goal.loop-place-preserved
loop-place-preserved c =
    let l = c.loop-place in
    let o = c.args in
    let x = get_or o.places.now l.place-index 0 in
    (length-set l.marks x (bit_xor (get_or l.marks x 0) 1) ∙ l.invariant.0, toggled_next o.places.now l.marks l.place-index x (omega arith) refl ∙ l.invariant.1)

pub returns : goal.returns
returns c = let l = c.loop-place in toggled_end c.args.places.now l.marks l.place-index (omega arith) ∙ l.invariant.1
