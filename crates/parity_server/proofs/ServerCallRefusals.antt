-- Refusals 1, 13, 2, 18, 5, then 3 and 4 of the two calls, and their promises from what was refused
-- or done.
use mathlib.Core.Path.{◌≡◌, refl, sym, ap, ◌∙◌, ap₂}
use mathlib.Core.Bool.{true, not}
use mathlib.Core.List.{List}
use Prim.Native.Nat.{ℕ, suc, ◌+◌, ◌*◌, ◌≤◌}
use native.Mathlib.Numerals.{add-one}
use lib.Dec.{eqb}
use lib.ListN.{length}
use Rattle.std.proofs.Common.{Result, Ok}
use Rattle.std.specs.Result.{IsErr}
use Rattle.mathematics.specs.Choice.{when, first_of}
use Rattle.mathematics.specs.Xor.{all_bytes}
use Rattle.mathematics.proofs.ChoiceLaws.{pick_done}
use Rattle.liberation.specs.Sets.{shape_refusal}
use Rattle.liberation.specs.Stripes.Stripes.{stripe_long, solved}
use Rattle.liberation.specs.ParityServer.Servers.{up_to, servers_long, server_solved, server_written, mended_all, server_rebuilt, server_refusal, write_refusal, rebuild_refusal}
use Rattle.liberation.specs.ParityServer.ServerClaims.{GivenLosses, Given}
use Rattle.liberation.proofs.ParityServer.ServerRefusalLaws.{server_last, rebuild_losses}
use Rattle.refusals.specs.declared.refusal.Refusal.{Refusal}
use Rattle.refusals.specs.declared.shape.Shape.{Shape}
use Rattle.refusals.specs.Refused.{refused, answer_of}
use Rattle.refusals.proofs.RefusalNumbers.{refused_pick}
use Rattle.parity_server.specs.declared.servers.Servers.{Servers}
use Rattle.parity_server.specs.Checked.{IsChecked}
use Rattle.parity_server.specs.Says.{rebuild_tests, WriteServerSays, RebuildServerSays}
use native.Mathlib.Omega.{arith}
use Rattle.liberation.proofs.RefusalLaws.{array_none, size_accepted, shape_most}

-- the extra server is server m
pub write_tests : (p k s m : ℕ) (ts : List ℕ) (n : ℕ) → n ≡ first_of (shape_refusal p k s) (first_of (server_refusal m m) (when (not (eqb (length ts) (servers_long p k s m))) 5)) → n ≡ write_refusal p k s m ts
unfolding write_refusal
write_tests p k s m ts n e = e ∙ ap (λ (x : ℕ). first_of (shape_refusal p k s) (first_of x (when (not (eqb (length ts) (servers_long p k s m))) 5))) (server_last m)

pub write_refused : (x : Shape) (m : ℕ) (ts : List ℕ) (r : Result Unit Refusal) → IsErr r → refused r ≡ write_refusal x.width x.disks x.cell_size m ts → all_bytes ts ≡ true → WriteServerSays x.width x.disks x.cell_size m ts ts (answer_of r)
write_refused x m ts r i e b =
    record {
      answer = record { refusal = e; place = refl };
      stripes = refused_pick r (write_refusal x.width x.disks x.cell_size m ts) (server_written x.width x.disks x.cell_size m ts) ts i e;
      bytes = b;
    }

-- server j of the servers, in the shape of the call
solved_by : (x : Shape) (m j n : ℕ) (g : Servers) (ts us : List ℕ) (i : ℕ) → IsChecked x m j n g → us ≡ solved (stripe_long g.geometry.array.width g.geometry.array.disks g.geometry.cell_size) i (up_to (g.count + 1)) ts → us ≡ server_solved x.width x.disks x.cell_size m i ts
solved_by x m j n g ts us i is e = rw (is.width, is.disks, is.size, is.count, add-one) at e

pub write_done : (x : Shape) (m n : ℕ) (g : Servers) (ts us : List ℕ) → 0 ≡ write_refusal x.width x.disks x.cell_size m ts → IsChecked x m m n g
    → us ≡ solved (stripe_long g.geometry.array.width g.geometry.array.disks g.geometry.cell_size) g.count (up_to (g.count + 1)) ts → all_bytes ts ≡ true → WriteServerSays x.width x.disks x.cell_size m ts us (answer_of (Ok tt))
write_done x m n g ts us z is e b =
    record {
      answer = record { refusal = z; place = refl };
      stripes = solved_by x m m n g ts us g.count is e ∙ ap (λ (i : ℕ). server_solved x.width x.disks x.cell_size m i ts) is.count ∙ pick_done (write_refusal x.width x.disks x.cell_size m ts) (server_written x.width x.disks x.cell_size m ts) ts (sym z);
      bytes = b;
    }

-- server j, and the losses of the others
module _ (x : Shape) (m j : ℕ) (ts ls : List ℕ) where
  pub rebuild_is : (n : ℕ) → n ≡ rebuild_tests x.width x.disks x.cell_size m j (length ts) ls → n ≡ rebuild_refusal x.width x.disks x.cell_size m j ls ts
  unfolding rebuild_refusal
  rebuild_is n e = e

  pub rebuild_refused : (r : Result Unit Refusal) → IsErr r → refused r ≡ rebuild_refusal x.width x.disks x.cell_size m j ls ts → all_bytes ts ≡ true → all_bytes ls ≡ true → RebuildServerSays x.width x.disks x.cell_size m j ts ls ts (answer_of r)
  rebuild_refused r i e b d =
      record {
        answer = record { refusal = e; place = refl };
        stripes = refused_pick r (rebuild_refusal x.width x.disks x.cell_size m j ls ts) (server_rebuilt x.width x.disks x.cell_size m j ls ts) ts i e;
        bytes = b;
        loss_bytes = d;
      }

  -- mended, then the step of all servers
  both_done : (us vs : List ℕ) → us ≡ mended_all (suc m) x.width x.disks x.cell_size j ls ts → vs ≡ server_solved x.width x.disks x.cell_size m j us → vs ≡ server_rebuilt x.width x.disks x.cell_size m j ls ts
  unfolding server_rebuilt
  both_done us vs e q = q ∙ ap (server_solved x.width x.disks x.cell_size m j) e

  module _ (n : ℕ) (g : Servers) (is : IsChecked x m j n g) (z : 0 ≡ rebuild_refusal x.width x.disks x.cell_size m j ls ts) where
    pub given_losses : GivenLosses g.geometry.array.disks g.count j ls
    given_losses = rw (is.disks, is.count) (rebuild_losses x.width x.disks x.cell_size m ts j ls (sym z))

    pub rebuild_done : (us vs : List ℕ) → us ≡ mended_all (g.count + 1) g.geometry.array.width g.geometry.array.disks g.geometry.cell_size j ls ts
        → vs ≡ solved (stripe_long g.geometry.array.width g.geometry.array.disks g.geometry.cell_size) j (up_to (g.count + 1)) us → all_bytes ts ≡ true → all_bytes ls ≡ true → RebuildServerSays x.width x.disks x.cell_size m j ts ls vs (answer_of (Ok tt))
    rebuild_done us vs e q b d =
        record {
          answer = record { refusal = z; place = refl };
          stripes = both_done us vs (rw (is.width, is.disks, is.size, is.count, add-one) at e) (solved_by x m j n g us vs j is q) ∙ pick_done (rebuild_refusal x.width x.disks x.cell_size m j ls ts) (server_rebuilt x.width x.disks x.cell_size m j ls ts) ts (sym z);
          bytes = b;
          loss_bytes = d;
        }

pub given_small : (p k s m : ℕ) (ts : List ℕ) → Given p k s m ts → (k + 2 ≤ 33) × (p * s ≤ 126976) × ((k + 2) * (p * s) ≤ 4190208)
given_small p k s m ts g =
    let q = shape_most p k s (ap₂ first_of (array_none p k g.array.width g.array.two g.array.disks) (size_accepted s g.some g.small)) in
    (omega (arith, q.0, q.1), q.2, q.3)
