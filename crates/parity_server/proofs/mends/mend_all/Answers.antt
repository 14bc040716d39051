-- `mend_all`: each turn mends the next server.
use native.Mathlib.Omega.{arith}
use Rattle.parity_server.proofs.Turning.{turn_of, turns_none, turns_more}
use Rattle.parity_server.proofs.mends.mend_all.Goals as goal

pub loop-server-init : goal.loop-server-init
loop-server-init c =
    let a = c.args in
    let g = a.servers.geometry in
    turns_none g.array.width g.array.disks g.cell_size a.lost a.losses.now a.stripes.now

pub mend_turn-requires : goal.mend_turn-requires
mend_turn-requires c =
    let a = c.args in
    let l = c.loop-server in
    turn_of a.servers a.lost l.server a.losses.now a.stripes.now l.stripes c.requires.0 c.requires.1 l.auto.stripes (omega (arith, c.stripes-server-end.ensures))

pub loop-server-preserved : goal.loop-server-preserved
loop-server-preserved c =
    let a = c.args in
    let g = a.servers.geometry in
    let l = c.loop-server in
    turns_more g.array.width g.array.disks g.cell_size a.lost l.server a.losses.now a.stripes.now l.stripes c.mend_turn.new.stripes l.invariant c.mend_turn.ensures
