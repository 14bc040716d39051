-- `mend_all`: the servers passed are mended.
use mathlib.Core.Path.{◌≡◌}
use Rattle.liberation.specs.ParityServer.Servers.{mended_all}
use Rattle.parity_server.proofs.mends.mend_all.Given as goal

abbrev pub invariant-loop-server : goal.invariant-loop-server
invariant-loop-server l = l.stripes ≡ mended_all l.server l.servers.geometry.array.width l.servers.geometry.array.disks l.servers.geometry.cell_size l.lost l.losses l.initial.stripes
