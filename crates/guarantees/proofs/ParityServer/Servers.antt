-- Ask 7 of document 02, said of the calls that write and rebuild a server: whatever they return, as
-- long as they keep their promises.
-- ts are the m + 1 stripes as they were lent, ts' as they are given back, ls the losses, j the lost
-- server. That the lengths are those required and that all are bytes comes with the answer.
use mathlib.Core.Path.{◌≡◌, sym, subst, ap, ap₂, ◌∙◌}
use mathlib.Core.Bool.{true}
use mathlib.Core.List.{List}
use Prim.Native.Nat.{ℕ, suc, ◌+◌, ◌*◌, ◌<◌}
use lib.Dec.{eqb}
use lib.ListN.{length}
use Rattle.mathematics.specs.Choice.{pick}
use Rattle.mathematics.proofs.ChoiceLaws.{pick_refused}
use Rattle.liberation.specs.Stripes.Stripes.{cell_at, xor_over, stripe_long, clean, without}
use Rattle.liberation.specs.ParityServer.Servers.{up_to, server_at, is_servers, first_loss, second_loss, mended_at, server_written, server_rebuilt, write_refusal, rebuild_refusal}
use Rattle.liberation.specs.ParityServer.ServerClaims.{CleanServers, AlikeOff}
use Rattle.liberation.proofs.ParityServer.ServerRefusalLaws.{write_of}
use Rattle.liberation.proofs.ParityServer.ServerLaws.{servers_of}
use Rattle.liberation.proofs.ParityServer.Writing.{written_servers, written_other, written_cell, written_clean, written_cleans}
use Rattle.liberation.proofs.ParityServer.ServerBack.{rebuilt_servers, rebuilt_other, rebuilt_off, rebuilt_lost, servers_back, rebuilt_alike}
use Rattle.liberation.proofs.ParityServer.Unread.{refusal_unread, rebuilt_unread}
use Rattle.refusals.specs.declared.answer.Answer.{Answer}
use Rattle.refusals.proofs.AnswerLaws.{answers_none}
use Rattle.parity_server.specs.Says.{WriteServerSays, RebuildServerSays}

-- An accepted call that writes the extra stripe of ts leaves ts'.
pub record Writes (p k s m : ℕ) (ts ts' : List ℕ) : Type 0 where
  -- m + 1 stripes still, in length and bytes
  pub servers : is_servers p k s m ts' ≡ true
  -- "one more whose stripe is the XOR of theirs, cell for cell"
  pub extra : (x : ℕ) → x < p * (k + 2) → cell_at s (server_at p k s ts' m) x ≡ xor_over s (λ i. cell_at s (server_at p k s ts i) x) (up_to m)
  -- the m servers stand
  pub kept : (i : ℕ) → i < m → server_at p k s ts' i ≡ server_at p k s ts i
  -- "If all m stripes are clean, so is the extra one", and all are as a rebuild wants them
  pub is_clean : ((i : ℕ) → i < m → clean p k s (server_at p k s ts i) ≡ true) → clean p k s (server_at p k s ts' m) ≡ true
  pub all_clean : ((i : ℕ) → i < m → clean p k s (server_at p k s ts i) ≡ true) → CleanServers p k s m ts'

module _ (p k s m : ℕ) (ts ts' : List ℕ) (r : Answer) (q : WriteServerSays p k s m ts ts' r) where
  pub write_stands : (r.refusal ≡ 0 → ⊥) → ts' ≡ ts
  write_stands z = q.stripes ∙ sym (pick_refused r.refusal (write_refusal p k s m ts) (server_written p k s m ts) ts q.answer.refusal z)

  -- an accepted call, by its answer
  module _ (z : r.refusal ≡ 0) where
    none : write_refusal p k s m ts ≡ 0
    none = answers_none (write_refusal p k s m ts) r q.answer z

    pub write_done : ts' ≡ server_written p k s m ts
    write_done = q.stripes ∙ ap (λ (n : ℕ). pick (eqb n 0) (server_written p k s m ts) ts) none

    lent : is_servers p k s m ts ≡ true
    lent = servers_of p k s m ts (write_of p k s m ts none).long q.bytes

    pub writes : Writes p k s m ts ts'
    writes =
        record {
          servers = ap (is_servers p k s m) write_done ∙ written_servers p k s m ts lent;
          extra = λ x l. ap (λ (us : List ℕ). cell_at s (server_at p k s us m) x) write_done ∙ written_cell p k s m ts lent x l;
          kept = λ i l. ap (λ (us : List ℕ). server_at p k s us i) write_done ∙ written_other p k s m ts lent i l;
          is_clean = λ c. ap (λ (us : List ℕ). clean p k s (server_at p k s us m)) write_done ∙ written_clean p k s m ts lent c;
          all_clean = λ c. subst (CleanServers p k s m) (sym write_done) (written_cleans p k s m ts lent c);
        }

-- An accepted rebuild of server j of ts leaves ts'.
pub record Rebuilds (p k s m j : ℕ) (ls ts ts' : List ℕ) : Type 0 where
  -- m + 1 stripes still, in length and bytes
  pub servers : is_servers p k s m ts' ≡ true
  -- on dirty stripes too: every other server is as its losses are mended, and the lost one is the
  -- XOR of these
  pub others : (i : ℕ) → i < suc m → (i ≡ j → ⊥) → server_at p k s ts' i ≡ mended_at p k s ls ts i
  pub lost : server_at p k s ts' j ≡ xor_over (stripe_long p k s) (mended_at p k s ls ts) (without j (up_to (suc m)))
  -- the other servers' bytes off their losses stand
  pub kept : AlikeOff p k s m j ls ts' ts
  -- "the lost server comes back exact, provided all m + 1 stripes were clean and the extra the XOR
  -- of the rest before the losses", and so does every other
  pub back : (us : List ℕ) → CleanServers p k s m us → AlikeOff p k s m j ls ts us → ts' ≡ us

module _ (p k s m j : ℕ) (ts ls ts' : List ℕ) (r : Answer) (q : RebuildServerSays p k s m j ts ls ts' r) where
  pub rebuild_stands : (r.refusal ≡ 0 → ⊥) → ts' ≡ ts
  rebuild_stands z = q.stripes ∙ sym (pick_refused r.refusal (rebuild_refusal p k s m j ls ts) (server_rebuilt p k s m j ls ts) ts q.answer.refusal z)

  -- an accepted call, by its answer
  module _ (z : r.refusal ≡ 0) where
    accepted : rebuild_refusal p k s m j ls ts ≡ 0
    accepted = answers_none (rebuild_refusal p k s m j ls ts) r q.answer z

    pub rebuild_done : ts' ≡ server_rebuilt p k s m j ls ts
    rebuild_done = q.stripes ∙ ap (λ (n : ℕ). pick (eqb n 0) (server_rebuilt p k s m j ls ts) ts) accepted

    pub rebuilds : Rebuilds p k s m j ls ts ts'
    rebuilds =
        record {
          servers = ap (is_servers p k s m) rebuild_done ∙ rebuilt_servers p k s m j ls ts q.bytes accepted;
          others = λ i l a. ap (λ (us : List ℕ). server_at p k s us i) rebuild_done ∙ rebuilt_other p k s m j ls ts q.bytes accepted i l a;
          lost = ap (λ (us : List ℕ). server_at p k s us j) rebuild_done ∙ rebuilt_lost p k s m j ls ts q.bytes accepted;
          kept = λ i l a x h na nb. ap (λ (us : List ℕ). cell_at s (server_at p k s us i) x) rebuild_done ∙ rebuilt_off p k s m j ls ts q.bytes accepted i l a x h na nb;
          back = λ us c same. rebuild_done ∙ servers_back p k s m j ls ts q.bytes accepted us c same;
        }

    -- what server j and the lost disks held does not matter, on dirty stripes too
    pub never_used : (vs vs' : List ℕ) (o : Answer) → RebuildServerSays p k s m j vs ls vs' o → o.refusal ≡ 0 → AlikeOff p k s m j ls ts vs → ts' ≡ vs'
    never_used vs vs' o w y same =
        let av : rebuild_refusal p k s m j ls vs ≡ 0 = answers_none (rebuild_refusal p k s m j ls vs) o w.answer y in
        rebuild_done
        ∙ rebuilt_alike p k s m j ls ts vs q.bytes w.bytes accepted av same
        ∙ sym (w.stripes ∙ ap (λ (n : ℕ). pick (eqb n 0) (server_rebuilt p k s m j ls vs) vs) av)

  -- "the lost server's own pair is not read": neither the answer nor the stripes depend on it
  pub pair_unread : (ms us : List ℕ) (o : Answer) → RebuildServerSays p k s m j ts ms us o → length ls ≡ length ms → ((i : ℕ) → i < suc m → (i ≡ j → ⊥) → (first_loss ls i ≡ first_loss ms i) × (second_loss ls i ≡ second_loss ms i)) → (r.refusal ≡ o.refusal) × (ts' ≡ us)
  pair_unread ms us o w long same =
      let e : rebuild_refusal p k s m j ls ts ≡ rebuild_refusal p k s m j ms ts = refusal_unread p k s m j ls ms same ts long in (
        q.answer.refusal ∙ e ∙ sym w.answer.refusal,
        q.stripes ∙ ap₂ (λ (n : ℕ) (l : List ℕ). pick (eqb n 0) l ts) e (rebuilt_unread p k s m j ls ms same ts) ∙ sym w.stripes,
      )

-- both calls together: what was written over clean stripes comes back after the losses
pub written_back :
    (p k s m j : ℕ) (ts ts' vs ls vs' : List ℕ) (r o : Answer) → WriteServerSays p k s m ts ts' r → r.refusal ≡ 0
    → ((i : ℕ) → i < m → clean p k s (server_at p k s ts i) ≡ true)
    → RebuildServerSays p k s m j vs ls vs' o → o.refusal ≡ 0 → AlikeOff p k s m j ls vs ts' → vs' ≡ ts'
written_back p k s m j ts ts' vs ls vs' r o w z cleans q y same =
    (rebuilds p k s m j vs ls vs' o q y).back ts' ((writes p k s m ts ts' r w z).all_clean cleans) same
