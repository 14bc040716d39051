-- `gather_blocks`: block after block of N bytes.
use Prim.Native.Nat.{◌+◌, ◌-◌, ◌≤◌}
use native.Mathlib.Omega.{arith}
use lib.ListN.{length}
use Rattle.xor.proofs.BlockLaws.{tail_is, gathered_none, gathered_more, gathered_all, blocks_all, block_fits, blocks_left}
use Rattle.xor.proofs.into_slice.gather_blocks.Goals as goal

pub loop-b-init : goal.loop-b-init
loop-b-init g c = (omega arith, blocks_all g.row.N (length c.args.dst.now) c.requires.1, gathered_none c.args.t.now c.args.at.now c.args.dst.now)

pub slice_bounds-gather_block-end : goal.slice_bounds-gather_block-end
slice_bounds-gather_block-end g c = omega (arith, block_fits g.row.N (length c.args.dst.now) c.loop-b.b c.loop-b-test.true c.loop-b.invariant.1)

pub loop-b-preserved : goal.loop-b-preserved
loop-b-preserved g c =
    let b = c.loop-b.b in
    let n = length c.args.dst.now in
    let i = c.loop-b.invariant in
    let h : b + g.row.N ≤ n = block_fits g.row.N n b c.loop-b-test.true i.1 in
    (h, blocks_left g.row.N n b c.loop-b-test.true i.1, gathered_more (b + g.row.N - b) (b + g.row.N) _ c.gather_block.new.dst i.2 c.requires.3.inside (omega arith) h (tail_is b c.args.t.now) c.gather_block.ensures)

pub returns : goal.returns
returns g c = gathered_all c.loop-b.invariant.2 c.requires.3.inside (omega arith)

-- the last turn
pub returns-2 : goal.returns-2
returns-2 g c =
    let b = c.loop-b.b in
    let n = length c.args.dst.now in
    let i = c.loop-b.invariant in
    let h : b + g.row.N ≤ n = block_fits g.row.N n b c.loop-b-test.true i.1 in
    gathered_all (gathered_more (b + g.row.N - b) (b + g.row.N) _ c.gather_block.new.dst i.2 c.requires.3.inside (omega arith) h (tail_is b c.args.t.now) c.gather_block.ensures) c.requires.3.inside (omega arith)
