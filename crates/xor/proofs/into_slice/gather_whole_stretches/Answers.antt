-- `gather_whole_stretches`: stretch after stretch of 4,096 bytes.
use Prim.Native.Nat.{◌+◌, ◌-◌, ◌≤◌}
use native.Mathlib.Omega.{arith}
use lib.ListN.{length}
use Rattle.xor.proofs.BlockLaws.{tail_is, gathered_none, gathered_more, gathered_all, blocks_all, block_fits, blocks_left}
use Rattle.xor.proofs.into_slice.gather_whole_stretches.Goals as goal

pub loop-b-init : goal.loop-b-init
loop-b-init c = (omega arith, blocks_all 4096 (length c.args.dst.now) c.requires.0, gathered_none c.args.t.now c.args.at.now c.args.dst.now)

pub slice_bounds-gather-end : goal.slice_bounds-gather-end
slice_bounds-gather-end c = omega (arith, block_fits 4096 (length c.args.dst.now) c.loop-b.b c.loop-b-test.true c.loop-b.invariant.1)

pub loop-b-preserved : goal.loop-b-preserved
loop-b-preserved c =
    let b = c.loop-b.b in
    let n = length c.args.dst.now in
    let i = c.loop-b.invariant in
    let h : b + 4096 ≤ n = block_fits 4096 n b c.loop-b-test.true i.1 in
    (h, blocks_left 4096 n b c.loop-b-test.true i.1, gathered_more (b + 4096 - b) (b + 4096) _ c.gather.new.dst i.2 c.requires.2.inside (omega arith) h (tail_is b c.args.t.now) c.gather.ensures)

pub returns : goal.returns
returns c = gathered_all c.loop-b.invariant.2 c.requires.2.inside (omega arith)

-- the last turn
pub returns-2 : goal.returns-2
returns-2 c =
    let b = c.loop-b.b in
    let n = length c.args.dst.now in
    let i = c.loop-b.invariant in
    let h : b + 4096 ≤ n = block_fits 4096 n b c.loop-b-test.true i.1 in
    gathered_all (gathered_more (b + 4096 - b) (b + 4096) _ c.gather.new.dst i.2 c.requires.2.inside (omega arith) h (tail_is b c.args.t.now) c.gather.ensures) c.requires.2.inside (omega arith)
