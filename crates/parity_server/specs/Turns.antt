-- What mending one server in the slice of all asks.
use Rattle.std.specs.Prelude.{◌≡◌, List, ℕ, ◌+◌, ◌*◌, ◌≤◌, ◌<◌, length}
use Rattle.liberation.specs.Stripes.Stripes.{stripe_long}
use Rattle.liberation.specs.ParityServer.Servers.{first_loss, second_loss, pair_refusal, servers_long}
use Rattle.parity_server.specs.declared.servers.Servers.{Servers}

-- ts has the length of the servers' stripes, that of the extra one with them
abbrev pub AreStripesOf : Servers → List ℕ → Type 0
AreStripesOf s ts = length ts ≡ servers_long s.geometry.array.width s.geometry.array.disks s.geometry.cell_size s.count

-- server i's stripe and its pair of losses lie in the slices, and the pair has no refusal, unless i
-- is the lost server j
pub record Turn (s : Servers) (j i : ℕ) (ls ts : List ℕ) : Type 0 where
  pub stripe : i * stripe_long s.geometry.array.width s.geometry.array.disks s.geometry.cell_size + stripe_long s.geometry.array.width s.geometry.array.disks s.geometry.cell_size ≤ length ts
  pub pair : 2 * i + 1 < length ls
  pub losses : (i ≡ j → ⊥) → pair_refusal s.geometry.array.disks (first_loss ls i) (second_loss ls i) ≡ 0
