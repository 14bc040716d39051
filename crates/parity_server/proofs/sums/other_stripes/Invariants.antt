-- `other_stripes`: the offsets of the servers passed are in the list, but that of the server left out.
use mathlib.Core.Path.{◌≡◌}
use Rattle.liberation.specs.Stripes.Stripes.{without}
use Rattle.liberation.specs.ParityServer.Servers.{up_to}
use Rattle.stripe_cells.specs.Offsets.{scaled}
use Rattle.parity_server.proofs.sums.other_stripes.Given as goal

abbrev pub invariant-loop-other : goal.invariant-loop-other
invariant-loop-other l = l.others ≡ scaled l.long (without l.server (up_to l.other))
