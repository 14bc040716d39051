-- `comes_to_one`: each turn tries one multiple. The invariant: 1 is among those still to come
-- exactly if it is among all.
use mathlib.Core.Path.{sym, ◌∙◌}
use Prim.Native.Nat.{◌+◌, ◌-◌, ◌/◌}
use native.Mathlib.Omega.{arith}
use Rattle.parity_sets.proofs.NumberLaws.{next_below}
use Rattle.rebuild_two.proofs.RoleLaws.{one_found, one_turn, one_none}
use Rattle.rebuild_two.proofs.data.comes_to_one.Goals as goal

pub returns-then-multiple-eq1 : goal.returns-then-multiple-eq1
returns-then-multiple-eq1 c =
    let l = c.loop in
    let a = c.args in
    sym (one_found ((a.array.width - 1) / 2 - l.counter) a.array.width a.gap l.multiple (omega arith) c.if-multiple-eq1.true) ∙ l.invariant.1

pub loop-preserved : goal.loop-preserved
loop-preserved c =
    let l = c.loop in
    let a = c.args in
    let e = c.row_on-multiple.ensures (omega arith) in
    (next_below a.array.width l.multiple a.gap c.row_on-multiple.result (omega arith) e, one_turn ((a.array.width - 1) / 2 - l.counter) ((a.array.width - 1) / 2 - (l.counter + 1)) a.array.width a.gap l.multiple c.row_on-multiple.result e (omega arith) c.if-multiple-eq1.false ∙ l.invariant.1)

pub returns : goal.returns
returns c =
    let l = c.loop in
    let a = c.args in
    sym (one_none ((a.array.width - 1) / 2 - l.counter) a.array.width a.gap l.multiple (omega arith)) ∙ l.invariant.1
