-- `stretches_are_zero`: stretch after stretch, in one buffer, whose bytes play no part. A stretch that
-- is not zero settles the answer.
use mathlib.Core.Path.{refl, sym, ◌∙◌}
use mathlib.Core.Bool.{true, false}
use Prim.Native.Nat.{◌+◌, ◌≤◌}
use native.Mathlib.Omega.{arith}
use Rattle.xor.proofs.BlockLaws.{tail_is, blocks_all, block_fits, blocks_left}
use Rattle.xor.proofs.ZeroLaws.{zero_all, zero_turn, zero_none}
use Rattle.xor_is_zero.proofs.stretches_are_zero.Goals as goal

pub loop-b-init : goal.loop-b-init
loop-b-init c = (omega arith, blocks_all 2048 c.args.n c.requires.0, zero_all c.args.n c.args.t.now c.args.at.now)

pub returns-then-not-stretch_is_zero : goal.returns-then-not-stretch_is_zero
returns-then-not-stretch_is_zero c =
    let a = c.args in
    let b = c.loop-b.b in
    let i = c.loop-b.invariant in
    let h : b + 2048 ≤ a.n = block_fits 2048 a.n b c.loop-b-test.true i.1 in
    sym (zero_turn _ _ false b 2048 (b + 2048) a.n a.t.now a.at.now _ refl h c.requires.1 c.requires.2.inside (tail_is b a.t.now) i.2 c.stretch_is_zero.ensures c.if-not-stretch_is_zero.true)

pub loop-b-preserved : goal.loop-b-preserved
loop-b-preserved c =
    let a = c.args in
    let b = c.loop-b.b in
    let i = c.loop-b.invariant in
    let h : b + 2048 ≤ a.n = block_fits 2048 a.n b c.loop-b-test.true i.1 in
    (h, blocks_left 2048 a.n b c.loop-b-test.true i.1, zero_turn _ _ true b 2048 (b + 2048) a.n a.t.now a.at.now _ refl h c.requires.1 c.requires.2.inside (tail_is b a.t.now) i.2 c.stretch_is_zero.ensures c.if-not-stretch_is_zero.false)

pub returns : goal.returns
returns c = let a = c.args in sym (c.loop-b.invariant.2 ∙ zero_none c.loop-b.b a.n a.t.now a.at.now (omega arith))

-- the last turn
pub returns-else-not-stretch_is_zero : goal.returns-else-not-stretch_is_zero
returns-else-not-stretch_is_zero c =
    let a = c.args in
    let b = c.loop-b.b in
    let i = c.loop-b.invariant in
    let h : b + 2048 ≤ a.n = block_fits 2048 a.n b c.loop-b-test.true i.1 in
    sym (zero_turn _ _ true b 2048 (b + 2048) a.n a.t.now a.at.now _ refl h c.requires.1 c.requires.2.inside (tail_is b a.t.now) i.2 c.stretch_is_zero.ensures c.if-not-stretch_is_zero.false
    ∙ zero_none (b + 2048) a.n a.t.now a.at.now (omega arith))
