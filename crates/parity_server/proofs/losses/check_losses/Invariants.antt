-- `check_losses`: the servers passed have no refusal.
use mathlib.Core.Path.{◌≡◌}
use Rattle.liberation.specs.ParityServer.Servers.{losses_refusal}
use Rattle.parity_server.proofs.losses.check_losses.Given as goal

abbrev pub invariant-loop-server : goal.invariant-loop-server
invariant-loop-server l = losses_refusal l.server l.servers.geometry.array.disks l.lost l.losses ≡ 0
