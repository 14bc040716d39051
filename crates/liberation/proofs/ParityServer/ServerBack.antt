-- Rebuilding a server. After any call that is not refused, every other server is as mended and the
-- lost one is the XOR of these.
-- Where the servers held m + 1 clean stripes, the last the XOR of the rest, they all come back,
-- whatever the lost server and the lost disks held.
use mathlib.Core.Path.{◌≡◌, sym, ap, ◌∙◌}
use mathlib.Core.Bool.{true, not}
use mathlib.Core.Logic.{⊎_elim}
use mathlib.Core.List.{List}
use Prim.Native.Nat.{ℕ, suc, ◌<◌}
use native.Mathlib.Omega.{arith}
use lib.Dec.{eqb}
use borrow.Author.Tests.{eqb-false, not-true}
use Rattle.mathematics.specs.Lists.{is_in}
use Rattle.mathematics.specs.Xor.{all_bytes}
use Rattle.mathematics.proofs.Flags.{and_l, and_r}
use Rattle.mathematics.proofs.OrderLaws.{eq_or_ne}
use Rattle.liberation.specs.Stripes.Stripes.{cell_at, xor_over, stripe_long, is_stripe, clean, without}
use Rattle.liberation.proofs.Stripes.OverLaws.{over_ext, in_without}
use Rattle.liberation.specs.ParityServer.Servers.{up_to, server_at, is_servers, first_loss, second_loss, mended, mended_at, mended_all, server_rebuilt, server_written, write_refusal, rebuild_refusal}
use Rattle.liberation.specs.ParityServer.ServerClaims.{CleanServers, AlikeOff, Given, GivenLosses}
use Rattle.liberation.proofs.ParityServer.UpTo.{up_lt}
use Rattle.liberation.proofs.ParityServer.ServerRefusalLaws.{losses_of, write_of, rebuild_of, rebuild_losses}
use Rattle.liberation.proofs.ParityServer.Mending.{Mends, mends}
use Rattle.liberation.proofs.ParityServer.ServerLaws.{servers_of, servers_equal, server_stripe, step_servers, step_server, step_other, step_same, extra_zero}
use Rattle.liberation.proofs.ParityServer.MendingAll.{all_servers, all_mended}
use Rattle.liberation.proofs.ParityServer.Writing.{written_cleans}

-- a number of the list but j
other_up : (m j i : ℕ) → is_in i (without j (up_to (suc m))) ≡ true → (i < suc m) × (i ≡ j → ⊥)
other_up m j i h =
    let both = sym (in_without j i (up_to (suc m))) ∙ h in
    (up_lt (suc m) i (and_l (is_in i (up_to (suc m))) (not (eqb i j)) both), eqb-false i j (not-true (eqb i j) (and_r (is_in i (up_to (suc m))) (not (eqb i j)) both)))

-- slices with equal servers: j, and the others
servers_by : (p k s m j : ℕ) (ts us : List ℕ) → is_servers p k s m ts ≡ true → is_servers p k s m us ≡ true → server_at p k s ts j ≡ server_at p k s us j → ((i : ℕ) → i < suc m → (i ≡ j → ⊥) → server_at p k s ts i ≡ server_at p k s us i) → ts ≡ us
servers_by p k s m j ts us ht hu own others =
    servers_equal p k s m ts us ht hu
    (λ i l. ⊎_elim (λ q. ap (server_at p k s ts) q ∙ own ∙ sym (ap (server_at p k s us) q)) (others i l) (eq_or_ne i j))

-- a call that is not refused, on a slice of bytes
module _ (p k s m j : ℕ) (ls ts : List ℕ) (bytes : all_bytes ts ≡ true) (accepted : rebuild_refusal p k s m j ls ts ≡ 0) where
  given : Given p k s m ts
  given = rebuild_of p k s m ts j ls accepted

  losses : GivenLosses k m j ls
  losses = rebuild_losses p k s m ts j ls accepted

  all : is_servers p k s m ts ≡ true
  all = servers_of p k s m ts given.long bytes

  mends_at : (i : ℕ) → i < suc m → (i ≡ j → ⊥) → Mends p k s (first_loss ls i) (second_loss ls i) (mended p k s (first_loss ls i) (second_loss ls i))
  mends_at i l a = mends p k s given.array.width given.array.disks (first_loss ls i) (second_loss ls i) (losses_of k (first_loss ls i) (second_loss ls i) (losses.pairs i l a))

  keeps : (i : ℕ) → i < suc m → (i ≡ j → ⊥) → (t : List ℕ) → is_stripe p k s t ≡ true → is_stripe p k s (mended p k s (first_loss ls i) (second_loss ls i) t) ≡ true
  keeps i l a = (mends_at i l a).stripe

  -- the slice before the XOR
  before_servers : is_servers p k s m (mended_all (suc m) p k s j ls ts) ≡ true
  before_servers = all_servers p k s m j ls ts all keeps (suc m) (omega arith)

  before_server : (i : ℕ) → i < suc m → (i ≡ j → ⊥) → server_at p k s (mended_all (suc m) p k s j ls ts) i ≡ mended_at p k s ls ts i
  before_server i l a = all_mended p k s m j ls ts all keeps (suc m) i (omega arith) l a

  -- the slice stays m + 1 stripes
  pub rebuilt_servers : is_servers p k s m (server_rebuilt p k s m j ls ts) ≡ true
  unfolding server_rebuilt
  rebuilt_servers = step_servers p k s m (mended_all (suc m) p k s j ls ts) before_servers j losses.server

  -- every other server is as mended, off its losses as it was
  pub rebuilt_other : (i : ℕ) → i < suc m → (i ≡ j → ⊥) → server_at p k s (server_rebuilt p k s m j ls ts) i ≡ mended_at p k s ls ts i
  unfolding server_rebuilt
  rebuilt_other i l a = step_other p k s m (mended_all (suc m) p k s j ls ts) before_servers j losses.server i a ∙ before_server i l a

  pub rebuilt_off : AlikeOff p k s m j ls (server_rebuilt p k s m j ls ts) ts
  rebuilt_off i l a x h na nb = ap (λ (t : List ℕ). cell_at s t x) (rebuilt_other i l a) ∙ (mends_at i l a).off (server_at p k s ts i) (server_stripe p k s m ts all i l) x na nb

  -- the lost one is the XOR of the others as mended
  pub rebuilt_lost : server_at p k s (server_rebuilt p k s m j ls ts) j ≡ xor_over (stripe_long p k s) (mended_at p k s ls ts) (without j (up_to (suc m)))
  unfolding server_rebuilt
  rebuilt_lost =
      step_server p k s m (mended_all (suc m) p k s j ls ts) before_servers j losses.server
      ∙ over_ext (stripe_long p k s) (server_at p k s (mended_all (suc m) p k s j ls ts)) (mended_at p k s ls ts) (without j (up_to (suc m))) (λ i e. let o = other_up m j i e in before_server i o.0 o.1)

  -- "the lost server comes back exact", and so do the others
  module _ (us : List ℕ) (cleans : CleanServers p k s m us) (alike : AlikeOff p k s m j ls ts us) where
    mended_back : (i : ℕ) → i < suc m → (i ≡ j → ⊥) → mended_at p k s ls ts i ≡ server_at p k s us i
    mended_back i l a = (mends_at i l a).back (server_at p k s ts i) (server_at p k s us i) (server_stripe p k s m ts all i l) (server_stripe p k s m us cleans.servers i l) (cleans.cleans i l) (alike i l a)

    lost_back : server_at p k s (server_rebuilt p k s m j ls ts) j ≡ server_at p k s us j
    lost_back =
        rebuilt_lost
        ∙ over_ext (stripe_long p k s) (mended_at p k s ls ts) (server_at p k s us) (without j (up_to (suc m))) (λ i e. let o = other_up m j i e in mended_back i o.0 o.1)
        ∙ sym (step_server p k s m us cleans.servers j losses.server)
        ∙ ap (λ (vs : List ℕ). server_at p k s vs j) (step_same p k s m us cleans.servers j losses.server (extra_zero p k s m us cleans.servers cleans.extra))

    pub servers_back : server_rebuilt p k s m j ls ts ≡ us
    servers_back =
        servers_by p k s m j (server_rebuilt p k s m j ls ts) us rebuilt_servers cleans.servers lost_back (λ i l a. rebuilt_other i l a ∙ mended_back i l a)

-- what server j and the lost disks held does not matter, on dirty stripes too
module _ (p k s m j : ℕ) (ls ts vs : List ℕ) (bt : all_bytes ts ≡ true) (bv : all_bytes vs ≡ true) (ht : rebuild_refusal p k s m j ls ts ≡ 0) (hv : rebuild_refusal p k s m j ls vs ≡ 0) (same : AlikeOff p k s m j ls ts vs) where
  mended_alike : (i : ℕ) → i < suc m → (i ≡ j → ⊥) → mended_at p k s ls ts i ≡ mended_at p k s ls vs i
  mended_alike i l a =
      (mends_at p k s m j ls ts bt ht i l a).alike (server_at p k s ts i) (server_at p k s vs i)
      (server_stripe p k s m ts (all p k s m j ls ts bt ht) i l) (server_stripe p k s m vs (all p k s m j ls vs bv hv) i l) (same i l a)

  lost_alike : server_at p k s (server_rebuilt p k s m j ls ts) j ≡ server_at p k s (server_rebuilt p k s m j ls vs) j
  lost_alike =
      rebuilt_lost p k s m j ls ts bt ht
      ∙ over_ext (stripe_long p k s) (mended_at p k s ls ts) (mended_at p k s ls vs) (without j (up_to (suc m))) (λ i e. let o = other_up m j i e in mended_alike i o.0 o.1)
      ∙ sym (rebuilt_lost p k s m j ls vs bv hv)

  pub rebuilt_alike : server_rebuilt p k s m j ls ts ≡ server_rebuilt p k s m j ls vs
  rebuilt_alike =
      servers_by p k s m j (server_rebuilt p k s m j ls ts) (server_rebuilt p k s m j ls vs) (rebuilt_servers p k s m j ls ts bt ht) (rebuilt_servers p k s m j ls vs bv hv) lost_alike
      (λ i l a. rebuilt_other p k s m j ls ts bt ht i l a ∙ mended_alike i l a ∙ sym (rebuilt_other p k s m j ls vs bv hv i l a))

-- both calls together: what was written over clean stripes comes back after the losses
pub written_back :
    (p k s m j : ℕ) (ls ts vs : List ℕ) → all_bytes ts ≡ true → all_bytes vs ≡ true
    → write_refusal p k s m ts ≡ 0 → ((i : ℕ) → i < m → clean p k s (server_at p k s ts i) ≡ true)
    → rebuild_refusal p k s m j ls vs ≡ 0 → AlikeOff p k s m j ls vs (server_written p k s m ts)
    → server_rebuilt p k s m j ls vs ≡ server_written p k s m ts
written_back p k s m j ls ts vs bt bv write cleans rebuild alike =
    servers_back p k s m j ls vs bv rebuild (server_written p k s m ts) (written_cleans p k s m ts (servers_of p k s m ts (write_of p k s m ts write).long bt) cleans) alike
