-- `rebuild_server`: a refusal leaves the stripes as they were; else the others' losses are mended,
-- and then the lost server's stripe becomes the XOR of the others.
use Rattle.std.proofs.Common.{rules}
use Rattle.refusals.specs.Refused.{refused}
use Rattle.xor.proofs.SourceLaws.{bytes_all}
use Rattle.parity_server.proofs.ServerCallRefusals.{rebuild_is, rebuild_refused, given_losses, rebuild_done}
use Rattle.parity_server.proofs.rebuild_server.Goals as goal

pub returns-in_err-servers : goal.returns-in_err-servers
returns-in_err-servers c =
    let a = c.args in
    rebuild_refused a.shape a.servers a.lost a.stripes.now a.losses.now c.from_residual.result c.from_residual.ensures.0 (rebuild_is a.shape a.servers a.lost a.stripes.now a.losses.now (refused c.from_residual.result) (search rules)) (bytes_all a.stripes.now c.type_inv.stripes) (bytes_all a.losses.now c.type_inv.losses)

pub mend_all-requires : goal.mend_all-requires
mend_all-requires c =
    let a = c.args in
    let k = c.in_ok-servers.ensures in
    let is = k.servers in
    (rw (is.width, is.disks, is.size, is.count) is.stripes, given_losses a.shape a.servers a.lost a.stripes.now a.losses.now _ c.in_ok-servers.servers is (rebuild_is a.shape a.servers a.lost a.stripes.now a.losses.now 0 k.refusal))

pub returns : goal.returns
returns c =
    let a = c.args in
    let k = c.in_ok-servers.ensures in
    rebuild_done a.shape a.servers a.lost a.stripes.now a.losses.now _ c.in_ok-servers.servers k.servers (rebuild_is a.shape a.servers a.lost a.stripes.now a.losses.now 0 k.refusal) c.mend_all.new.stripes c.solve_server.new.stripes c.mend_all.ensures c.solve_server.ensures (bytes_all a.stripes.now c.slice_known-1.given) (bytes_all a.losses.now c.shared_slice_known-1.given)
