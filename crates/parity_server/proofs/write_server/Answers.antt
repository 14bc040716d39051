-- `write_server`: a refusal leaves the stripes as they were; else the extra one becomes the XOR of
-- the others.
use Rattle.std.proofs.Common.{rules}
use Rattle.refusals.specs.Refused.{refused}
use Rattle.xor.proofs.SourceLaws.{bytes_all}
use Rattle.parity_server.proofs.ServerCallRefusals.{write_tests, write_refused, write_done}
use Rattle.parity_server.proofs.write_server.Goals as goal

pub returns-in_err-servers : goal.returns-in_err-servers
returns-in_err-servers c =
    let a = c.args in
    let x = a.shape in
    write_refused x a.servers a.stripes.now c.from_residual.result c.from_residual.ensures.0 (write_tests x.width x.disks x.cell_size a.servers a.stripes.now (refused c.from_residual.result) (search rules)) (bytes_all a.stripes.now c.type_inv.stripes)

pub returns : goal.returns
returns c =
    let a = c.args in
    let x = a.shape in
    write_done x a.servers _ c.in_ok-servers.servers a.stripes.now c.solve_server.new.stripes (write_tests x.width x.disks x.cell_size a.servers a.stripes.now 0 c.in_ok-servers.ensures.refusal) c.in_ok-servers.ensures.servers c.solve_server.ensures (bytes_all a.stripes.now c.slice_known-1.given)
