-- `toggle_named`: each turn toggles for a set, if the word names it.
use native.Mathlib.Omega.{arith}
use mathlib.Core.Path.{sym, ◌∙◌}
use Rattle.rebuild_cells.proofs.NamedLaws.{named_on, named_off, named_end}
use Rattle.rebuild_cells.proofs.one_cell.toggle_named.Goals as goal

pub loop-number-preserved-then-has_bit : goal.loop-number-preserved-then-has_bit
loop-number-preserved-then-has_bit c =
    let a = c.args in
    let l = c.loop-number in
    named_on a.array.width a.array.disks a.word l.number _ _ l.marks c.toggle_set.new.marks (sym c.has_bit.ensures ∙ c.if-has_bit.true) (omega arith) c.set_numbered.ensures.1 c.toggle_set.ensures ∙ l.invariant

pub loop-number-preserved : goal.loop-number-preserved
loop-number-preserved c =
    let a = c.args in
    let l = c.loop-number in
    named_off a.array.width a.array.disks a.word l.number _ l.marks (sym c.has_bit.ensures ∙ c.if-has_bit.false) (omega arith) ∙ l.invariant

pub returns : goal.returns
returns c =
    let a = c.args in
    let l = c.loop-number in
    named_end a.array.width a.array.disks a.word l.number l.marks (omega arith) ∙ l.invariant
