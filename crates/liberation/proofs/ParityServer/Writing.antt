-- Writing the extra stripe: it becomes the XOR of the m others, cell for cell, and these stand. If
-- they are clean, so is it.
use mathlib.Core.Path.{◌≡◌, sym, ap, ◌∙◌}
use mathlib.Core.Bool.{true}
use mathlib.Core.Logic.{⊎_elim}
use mathlib.Core.List.{List}
use Prim.Native.Nat.{ℕ, ◌+◌, ◌*◌, ◌<◌}
use native.Mathlib.Omega.{arith}
use Rattle.mathematics.proofs.OrderLaws.{lt_or_le}
use Rattle.liberation.specs.Stripes.Stripes.{cell_at, xor_over, stripe_long, clean}
use Rattle.liberation.proofs.Stripes.StripeCellLaws.{cell_fits}
use Rattle.liberation.proofs.Stripes.OverLaws.{over_ext}
use Rattle.liberation.specs.ParityServer.Servers.{up_to, server_at, is_servers, server_written}
use Rattle.liberation.specs.ParityServer.ServerClaims.{CleanServers}
use Rattle.liberation.proofs.ParityServer.UpTo.{up_lt, without_last}
use Rattle.liberation.proofs.Stripes.StripeSums.{cell_over, over_clean}
use Rattle.liberation.proofs.ParityServer.ServerLaws.{step_servers, step_server, step_other}

module _ (p k s m : ℕ) (ts : List ℕ) (all : is_servers p k s m ts ≡ true) where
  pub written_servers : is_servers p k s m (server_written p k s m ts) ≡ true
  written_servers = step_servers p k s m ts all m (omega arith)

  -- the m servers stand
  pub written_other : (i : ℕ) → i < m → server_at p k s (server_written p k s m ts) i ≡ server_at p k s ts i
  written_other i l = step_other p k s m ts all m (omega arith) i (λ e. omega arith)

  pub written_extra : server_at p k s (server_written p k s m ts) m ≡ xor_over (stripe_long p k s) (server_at p k s ts) (up_to m)
  written_extra = step_server p k s m ts all m (omega arith) ∙ ap (xor_over (stripe_long p k s) (server_at p k s ts)) (without_last m)

  -- "the XOR of theirs, cell for cell"
  pub written_cell : (x : ℕ) → x < p * (k + 2) → cell_at s (server_at p k s (server_written p k s m ts) m) x ≡ xor_over s (λ i. cell_at s (server_at p k s ts i) x) (up_to m)
  written_cell x l =
      ap (λ (t : List ℕ). cell_at s t x) written_extra
      ∙ cell_over (stripe_long p k s) s x (server_at p k s ts) (up_to m) (omega (arith, cell_fits (p * (k + 2)) s x l))

  -- "If all m stripes are clean, so is the extra one."
  module _ (cleans : (i : ℕ) → i < m → clean p k s (server_at p k s ts i) ≡ true) where
    pub written_clean : clean p k s (server_at p k s (server_written p k s m ts) m) ≡ true
    written_clean = ap (clean p k s) written_extra ∙ over_clean p k s (server_at p k s ts) (up_to m) (λ i e. cleans i (up_lt m i e))

    -- so the slice is as a rebuild wants it
    pub written_cleans : CleanServers p k s m (server_written p k s m ts)
    written_cleans =
        record {
          servers = written_servers;
          cleans = λ i l. ⊎_elim (λ n. ap (clean p k s) (written_other i n) ∙ cleans i n) (λ n. let e : i ≡ m = omega arith in ap (λ (c : ℕ). clean p k s (server_at p k s (server_written p k s m ts) c)) e ∙ written_clean) (lt_or_le i m);
          extra = written_extra ∙ over_ext (stripe_long p k s) (server_at p k s ts) (server_at p k s (server_written p k s m ts)) (up_to m) (λ i e. sym (written_other i (up_lt m i e)));
        }
