-- `put_blocks`: block after block of N bytes.
use mathlib.Core.Path.{refl}
use Prim.Native.Nat.{◌+◌, ◌≤◌}
use borrow.Author.Rules.{rules}
use native.Mathlib.Omega.{arith}
use Rattle.xor.proofs.BlockLaws.{blocks_all, block_fits, blocks_left}
use Rattle.xor_in_place.proofs.WithinLaws.{within_none, within_more, within_all}
use Rattle.xor_in_place.proofs.blocks.put_blocks.Goals as goal

pub loop-b-init : goal.loop-b-init
loop-b-init g c = (omega arith, blocks_all g.row.N c.args.n c.requires.1, within_none c.args.d c.args.n c.args.t.now c.args.at.now c.requires.2)

pub put_block-requires : goal.put_block-requires
put_block-requires g c =
    let h : c.loop-b.b + g.row.N ≤ c.args.n = block_fits g.row.N c.args.n c.loop-b.b c.loop-b-test.true c.loop-b.invariant.1 in
    search rules

pub loop-b-preserved : goal.loop-b-preserved
loop-b-preserved g c =
    let o = c.args in
    let l = c.loop-b in
    let i = l.invariant in
    let h : l.b + g.row.N ≤ o.n = block_fits g.row.N o.n l.b c.loop-b-test.true i.1 in
    (h, blocks_left g.row.N o.n l.b c.loop-b-test.true i.1, within_more o.d o.n o.t.now o.at.now c.requires.2 l.b g.row.N (l.b + g.row.N) l.t c.put_block.new.t refl h i.2 c.put_block.ensures)

pub returns : goal.returns
returns g c = within_all c.args.d c.args.n c.args.t.now c.args.at.now c.requires.2 c.loop-b.b c.loop-b.t (omega arith) c.loop-b.invariant.2

-- the last turn
pub returns-2 : goal.returns-2
returns-2 g c =
    let o = c.args in
    let l = c.loop-b in
    let i = l.invariant in
    let h : l.b + g.row.N ≤ o.n = block_fits g.row.N o.n l.b c.loop-b-test.true i.1 in
    within_all o.d o.n o.t.now o.at.now c.requires.2 (l.b + g.row.N) _ (omega arith)
    (within_more o.d o.n o.t.now o.at.now c.requires.2 l.b g.row.N (l.b + g.row.N) l.t c.put_block.new.t refl h i.2 c.put_block.ensures)
