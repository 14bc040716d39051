-- `toggle_sets`: each turn toggles for the two sets of a row. The invariant: the rows still to
-- come, toggled in the marks as they are, give what all rows give in the marks as they were.
use mathlib.Core.Path.{sym, ◌∙◌}
use Prim.Native.Nat.{◌+◌, ◌-◌}
use native.Mathlib.Omega.{arith}
use Rattle.two_disk_walk.proofs.ToggleLaws.{rows_turn, rows_last}
use Rattle.two_disk_walk.proofs.first_cell.toggle_sets.Goals as goal

pub loop-preserved : goal.loop-preserved
loop-preserved c =
    let l = c.loop in
    let a = c.args in
    let n = c.diagonal_of-row in
    let f = c.toggle_set in
    let d = c.toggle_set-in-loop in
    (n.ensures.1, d.auto.marks ∙ f.auto.marks ∙ l.invariant.1, rows_turn a.array.width a.array.disks a.x (a.array.width - l.counter) (a.array.width - (l.counter + 1)) l.row n.result l.marks f.new.marks d.new.marks (omega arith) n.ensures.0 n.ensures.1 f.ensures d.ensures ∙ l.invariant.2)

pub returns : goal.returns
returns c =
    let l = c.loop in
    let a = c.args in
    sym (rows_last a.array.width a.array.disks a.x (a.array.width - l.counter) l.row l.marks (omega arith)) ∙ l.invariant.2
