-- `long_is_zero`: the stretches, then what is left.
use mathlib.Core.Path.{sym, ap, ◌∙◌}
use mathlib.Core.Bool.{true, false}
use mathlib.Core.List.{List}
use Prim.Native.Nat.{ℕ, ◌-◌, ◌%◌}
use native.Mathlib.Omega.{arith}
use lib.ListN.{replicate}
use Rattle.mathematics.specs.Lists.{same}
use Rattle.xor.specs.Parts.{xor_offsets}
use Rattle.xor.proofs.BlockLaws.{tail_is}
use Rattle.xor_is_zero.proofs.LastLaws.{first_turn}
use Rattle.xor_is_zero.proofs.long_is_zero.Goals as goal

pub returns-then-stretches_are_zero : goal.returns-then-stretches_are_zero
returns-then-stretches_are_zero c =
    let a = c.args in
    let b = a.n - a.n % 2048 in
    c.blocks_are_zero.ensures
    ∙ ap (λ (u : List ℕ). same (xor_offsets (a.n - b) u a.at.now) (replicate (a.n - b) 0)) (tail_is b a.t.now)
    ∙ sym (first_turn b b a.n a.t.now a.at.now (omega arith) (omega arith) c.requires.0 c.requires.1.inside c.stretches_are_zero.result true c.stretches_are_zero.ensures c.if-stretches_are_zero.true)

pub returns-else-stretches_are_zero : goal.returns-else-stretches_are_zero
returns-else-stretches_are_zero c =
    let a = c.args in
    let b = a.n - a.n % 2048 in
    c.if-stretches_are_zero.false
    ∙ sym (first_turn b b a.n a.t.now a.at.now (omega arith) (omega arith) c.requires.0 c.requires.1.inside c.stretches_are_zero.result false c.stretches_are_zero.ensures c.if-stretches_are_zero.false)
