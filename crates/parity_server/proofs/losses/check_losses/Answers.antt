-- `check_losses`: each turn tests the next server's losses, and the first refusal ends the loop.
use mathlib.Core.Path.{refl}
use native.Mathlib.Omega.{arith}
use Rattle.std.proofs.Common.{rules}
use Rattle.liberation.proofs.ParityServer.ServerRefusalLaws.{losses_first}
use Rattle.refusals.specs.Refused.{refused}
use Rattle.refusals.proofs.RefusalNumbers.{refused_some}
use Rattle.parity_server.proofs.LossRefusals.{turn_none, turn_pair, losses_start, losses_more}
use Rattle.parity_server.proofs.losses.check_losses.Goals as goal
use Rattle.parity_server.proofs.losses.check_losses.Goals.{then-server-lost+in_ok-check_pair, else-server-lost}

pub loop-server-init : goal.loop-server-init
loop-server-init c = let a = c.args in losses_start a.servers.geometry.array.disks a.lost a.losses.now

pub returns-in_err-check_pair : goal.returns-in_err-check_pair
returns-in_err-check_pair c =
    let a = c.args in
    let k = a.servers.geometry.array.disks in
    let i = c.loop-server.server in
    let r = c.from_residual.result in
    losses_first _ k a.lost a.losses.now i (refused r) (omega (arith, c.stripes-server-end.ensures)) c.loop-server.invariant (turn_pair k a.lost i a.losses.now (refused r) c.if-server-lost.true (search rules)) (refused_some r c.from_residual.ensures.0)

pub loop-server-preserved : goal.loop-server-preserved
loop-server-preserved c =
    let a = c.args in
    let k = a.servers.geometry.array.disks in
    let i = c.loop-server.server in
    elim c.if-server-lost.branch [
      | then-server-lost+in_ok-check_pair w ↦ losses_more i k a.lost 0 a.losses.now c.loop-server.invariant (turn_pair k a.lost i a.losses.now 0 w.if-server-lost.true w.in_ok-check_pair.ensures) refl
      | else-server-lost w ↦ losses_more i k a.lost 0 a.losses.now c.loop-server.invariant (turn_none k a.lost i a.losses.now w.if-server-lost.false) refl
    ]
