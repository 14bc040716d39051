-- What the test of a call's numbers hands on.
use Rattle.std.specs.Prelude.{◌≡◌, ℕ, ◌≤◌}
use Rattle.liberation.specs.ParityServer.Servers.{servers_long}
use Rattle.refusals.specs.declared.shape.Shape.{Shape}
use Rattle.parity_server.specs.declared.servers.Servers.{Servers}

-- m servers of this shape, with server j, in stripes of n bytes in all
pub record IsChecked (x : Shape) (m j n : ℕ) (s : Servers) : Type 0 where
  pub width : s.geometry.array.width ≡ x.width
  pub disks : s.geometry.array.disks ≡ x.disks
  pub size : s.geometry.cell_size ≡ x.cell_size
  pub count : s.count ≡ m
  pub server : j ≤ m
  pub stripes : n ≡ servers_long x.width x.disks x.cell_size m
