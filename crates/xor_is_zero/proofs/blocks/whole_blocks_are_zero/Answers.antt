-- `whole_blocks_are_zero`: block after block of N bytes. A block that is not zero settles the answer.
use mathlib.Core.Path.{refl, sym, ◌∙◌}
use mathlib.Core.Bool.{true, false}
use Prim.Native.Nat.{◌+◌, ◌≤◌}
use borrow.Author.Rules.{rules}
use native.Mathlib.Omega.{arith}
use Rattle.xor.proofs.BlockLaws.{tail_is, blocks_all, block_fits, blocks_left}
use Rattle.xor.proofs.ZeroLaws.{zero_all, zero_turn, zero_none}
use Rattle.xor_is_zero.proofs.blocks.whole_blocks_are_zero.Goals as goal

pub loop-b-init : goal.loop-b-init
loop-b-init g c = (omega arith, blocks_all g.row.N c.args.n c.requires.1, zero_all c.args.n c.args.t.now c.args.at.now)

pub block_is_zero-requires : goal.block_is_zero-requires
block_is_zero-requires g c =
    let h : c.loop-b.b + g.row.N ≤ c.args.n = block_fits g.row.N c.args.n c.loop-b.b c.loop-b-test.true c.loop-b.invariant.1 in
    search rules

pub returns-then-not-block_is_zero : goal.returns-then-not-block_is_zero
returns-then-not-block_is_zero g c =
    let a = c.args in
    let b = c.loop-b.b in
    let i = c.loop-b.invariant in
    let h : b + g.row.N ≤ a.n = block_fits g.row.N a.n b c.loop-b-test.true i.1 in
    sym (zero_turn _ _ false b g.row.N (b + g.row.N) a.n a.t.now a.at.now _ refl h c.requires.2 c.requires.3.inside (tail_is b a.t.now) i.2 c.block_is_zero.ensures c.if-not-block_is_zero.true)

pub loop-b-preserved : goal.loop-b-preserved
loop-b-preserved g c =
    let a = c.args in
    let b = c.loop-b.b in
    let i = c.loop-b.invariant in
    let h : b + g.row.N ≤ a.n = block_fits g.row.N a.n b c.loop-b-test.true i.1 in
    (h, blocks_left g.row.N a.n b c.loop-b-test.true i.1, zero_turn _ _ true b g.row.N (b + g.row.N) a.n a.t.now a.at.now _ refl h c.requires.2 c.requires.3.inside (tail_is b a.t.now) i.2 c.block_is_zero.ensures c.if-not-block_is_zero.false)

pub returns : goal.returns
returns g c = let a = c.args in sym (c.loop-b.invariant.2 ∙ zero_none c.loop-b.b a.n a.t.now a.at.now (omega arith))
