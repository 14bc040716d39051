-- `sum_is_zero`: block after block of 128 bytes. A block that is not zero settles the answer.
use mathlib.Core.Path.{sym, ap, ◌∙◌}
use mathlib.Core.Bool.{Bool, true, false, ◌&&◌}
use Prim.Native.Nat.{◌+◌, ◌-◌, ◌≤◌}
use native.Mathlib.Omega.{arith}
use lib.ListN.{replicate}
use Rattle.mathematics.specs.Lists.{same}
use Rattle.xor.specs.Parts.{part}
use Rattle.xor.proofs.BlockLaws.{tail_is}
use Rattle.xor_is_zero.proofs.LastLaws.{sum_with, sum_split, sum_turn, sum_all}
use Rattle.xor_is_zero.proofs.one_stretch.sum_is_zero.Goals as goal

pub returns-then-not-sum_block_is_zero : goal.returns-then-not-sum_block_is_zero
returns-then-not-sum_block_is_zero c =
    let b = c.loop-b.b in
    let a = c.args in
    let j = b + 128 in
    let h : j ≤ 2048 = omega arith in
    sym
    (sum_split 2048 a.t.now a.at.now a.stretch.now c.requires.0 c.requires.2.inside j h
    ∙ ap (λ (f : Bool). f && same (part (2048 - j) j (sum_with 2048 a.t.now a.at.now a.stretch.now)) (replicate (2048 - j) 0))
    (sum_turn 2048 a.t.now a.at.now a.stretch.now c.requires.0 c.requires.2.inside b 128 _ _ false _ h (omega arith) (tail_is b a.t.now) c.loop-b.invariant.2 c.sum_block_is_zero.ensures c.if-not-sum_block_is_zero.true))

pub loop-b-preserved : goal.loop-b-preserved
loop-b-preserved c =
    let b = c.loop-b.b in
    let a = c.args in
    let h : b + 128 ≤ 2048 = omega arith in
    (h, omega arith, sum_turn 2048 a.t.now a.at.now a.stretch.now c.requires.0 c.requires.2.inside b 128 _ _ true _ h (omega arith) (tail_is b a.t.now) c.loop-b.invariant.2 c.sum_block_is_zero.ensures c.if-not-sum_block_is_zero.false)

pub returns : goal.returns
returns c =
    let l = c.loop-b in
    let a = c.args in
    sym (sum_all 2048 a.t.now a.at.now a.stretch.now c.requires.0 c.requires.2.inside l.b (omega arith) ∙ l.invariant.2)
