-- `solve_server`: the other stripes lie apart from this one, and their XOR is put in its place.
use mathlib.Core.Path.{◌≡◌, sym, ap, ◌∙◌}
use mathlib.Core.List.{List}
use Prim.Native.Nat.{ℕ, ◌+◌, ◌*◌}
use native.Mathlib.Numerals.{add-one}
use native.Mathlib.Omega.{arith}
use lib.ListN.{length}
use Rattle.liberation.specs.Stripes.Stripes.{stripe_long}
use Rattle.parity_server.specs.declared.servers.Servers.{Servers}
use Rattle.parity_server.specs.Turns.{AreStripesOf}
use Rattle.parity_server.proofs.OtherServers.{others_apart, others_solve}
use Rattle.parity_server.proofs.sums.solve_server.Goals as goal

-- the bytes of all stripes
whole : (s : Servers) (ts : List ℕ) → AreStripesOf s ts → length ts ≡ (s.count + 1) * stripe_long s.geometry.array.width s.geometry.array.disks s.geometry.cell_size
whole s ts e = e ∙ sym (ap (λ (n : ℕ). n * stripe_long s.geometry.array.width s.geometry.array.disks s.geometry.cell_size) (add-one s.count))

pub gather-requires : goal.gather-requires
gather-requires c =
    let a = c.args in
    (omega arith, rw c.stripe_bytes-long.ensures.0 (others_apart _ a.servers.count a.server c.other_stripes.result a.stripes.now a.servers.many c.requires.1 (whole a.servers a.stripes.now c.requires.0) c.other_stripes.ensures))

pub returns : goal.returns
returns c =
    let a = c.args in
    others_solve _ a.servers.count a.server c.other_stripes.result a.stripes.now a.servers.many c.requires.1 (whole a.servers a.stripes.now c.requires.0) c.other_stripes.ensures c.gather.new.stripe (rw c.stripe_bytes-long.ensures.0 at c.gather.ensures)
