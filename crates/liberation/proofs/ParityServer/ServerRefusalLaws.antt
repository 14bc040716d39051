-- What is known where the refusals of a call are 0: its numbers are within their limits, and so is
-- every pair of losses but the lost server's.
use mathlib.Core.Path.{◌≡◌, refl, sym, ap, ap₂, ◌∙◌}
use mathlib.Core.Bool.{Bool, true, false, ◌&&◌, ◌||◌}
use mathlib.Core.Logic.{⊎_elim}
use mathlib.Core.List.{List}
use Prim.Native.Nat.{ℕ, zero, suc, ◌+◌, ◌*◌, ◌≤◌, ◌<◌}
use native.Mathlib.Omega.{arith}
use lib.Dec.{eqb, ltb}
use borrow.Author.Tests.{eqb-false, ltb-false, eq-eqb, ne_eqb, le-ltb}
use Rattle.mathematics.specs.Choice.{pick, when, first_of}
use Rattle.mathematics.proofs.Flags.{and_i, or_false_l, or_false_r}
use Rattle.mathematics.proofs.ChoiceLaws.{first_none, first_kept, first_next, first_zero, when_none}
use Rattle.mathematics.proofs.OrderLaws.{lt_or_le}
use Rattle.liberation.specs.Sets.{disk_refusal, shape_refusal, long_refusal}
use Rattle.liberation.proofs.RefusalLaws.{shape_of, long_of, disk_refused, disk_accepted}
use Rattle.liberation.specs.ParityServer.Servers.{servers_long, lost, first_loss, second_loss, servers_refusal, server_refusal, byte_refusal, pair_refusal, losses_refusal, call_refusal, write_refusal, rebuild_refusal}
use Rattle.liberation.specs.ParityServer.ServerClaims.{Given, GivenLosses}

-- one pair of losses
pub record Losses (k a b : ℕ) : Type 0 where
  pub first : lost a ≡ true → a ≤ k + 1
  pub second : lost b ≡ true → b ≤ k + 1
  pub apart : lost a ≡ true → a ≡ b → ⊥

pub losses_of : (k a b : ℕ) → pair_refusal k a b ≡ 0 → Losses k a b
losses_of k a b h =
    let x = first_none (byte_refusal k a) (first_of (byte_refusal k b) (when (lost a && eqb a b) 4)) h in
    let y = first_none (byte_refusal k b) (when (lost a && eqb a b) 4) x.1 in
    record {
      first = λ e. low a x.0 e;
      second = λ e. low b y.0 e;
      apart = λ e. eqb-false a b (sym (ap (λ (c : Bool). c && eqb a b) e) ∙ when_none (lost a && eqb a b) 3 y.1);
    }
  where
    low : (d : ℕ) → byte_refusal k d ≡ 0 → lost d ≡ true → d ≤ k + 1
    low d z e = ltb-false (k + 1) d (when_none (ltb (k + 1) d) 2 (sym (ap (λ (c : Bool). pick c (disk_refusal k d) 0) e) ∙ z))

-- no loss is none twice, not one disk twice; a disk over k + 1 is refused before one named twice
pub pair_no_loss : (k : ℕ) → pair_refusal k 255 255 ≡ 0
pair_no_loss k = refl

over_refusal : (k d : ℕ) → lost d ≡ true → k + 1 < d → byte_refusal k d ≡ 3
over_refusal k d h l = ap (λ (c : Bool). pick c (disk_refusal k d) 0) h ∙ disk_refused k d l

pub pair_over : (k a b : ℕ) → lost a ≡ true → k + 1 < a → pair_refusal k a b ≡ 3
pair_over k a b h l = ap (λ (n : ℕ). first_of n (first_of (byte_refusal k b) (when (lost a && eqb a b) 4))) (over_refusal k a h l)

pub pair_twice : (k a : ℕ) → lost a ≡ true → a ≤ k + 1 → pair_refusal k a a ≡ 4
pair_twice k a h l =
    ap₂ (λ (n : ℕ) (d : Bool). first_of n (first_of n (when d 4)))
    (ap (λ (c : Bool). pick c (disk_refusal k a) 0) h ∙ disk_accepted k a l)
    (and_i (lost a) (eqb a a) h (eq-eqb a a refl))

-- every server but j
pub losses_at : (n k j : ℕ) (ls : List ℕ) → losses_refusal n k j ls ≡ 0 → (i : ℕ) → i < n → (i ≡ j → ⊥) → pair_refusal k (first_loss ls i) (second_loss ls i) ≡ 0
unfolding losses_refusal
losses_at zero k j ls h i l a = absurd (omega arith)
losses_at (suc n) k j ls h i l a =
    let x = first_none (losses_refusal n k j ls) (pick (eqb n j) 0 (pair_refusal k (first_loss ls n) (second_loss ls n))) h in
    ⊎_elim (λ m. losses_at n k j ls x.0 i m a) (λ m. let e : i ≡ n = omega arith in last e x.1) (lt_or_le i n)
  where
    last : i ≡ n → pick (eqb n j) 0 (pair_refusal k (first_loss ls n) (second_loss ls n)) ≡ 0 → pair_refusal k (first_loss ls i) (second_loss ls i) ≡ 0
    last e z =
        ap (λ (c : ℕ). pair_refusal k (first_loss ls c) (second_loss ls c)) e
        ∙ sym (ap (λ (b : Bool). pick b 0 (pair_refusal k (first_loss ls n) (second_loss ls n))) (ne_eqb n j (λ q. a (e ∙ q))))
        ∙ z

-- the first server whose pair is refused decides
pub losses_first : (n k j : ℕ) (ls : List ℕ) (i r : ℕ) → i < n → losses_refusal i k j ls ≡ 0 → r ≡ pick (eqb i j) 0 (pair_refusal k (first_loss ls i) (second_loss ls i)) → (r ≡ 0 → ⊥) → r ≡ losses_refusal n k j ls
unfolding losses_refusal
losses_first zero k j ls i r l z e f = absurd (omega arith)
losses_first (suc n) k j ls i r l z e f = ⊎_elim (λ h. first_kept r (losses_refusal n k j ls) (pick (eqb n j) 0 (pair_refusal k (first_loss ls n) (second_loss ls n))) (losses_first n k j ls i r h z e f) f) here (lt_or_le i n)
  where
    here : n ≤ i → r ≡ losses_refusal (suc n) k j ls
    here h =
        let q : i ≡ n = omega arith in
        first_next r (losses_refusal n k j ls) (pick (eqb n j) 0 (pair_refusal k (first_loss ls n) (second_loss ls n)))
        (sym (ap (λ (c : ℕ). losses_refusal c k j ls) q) ∙ z)
        (e ∙ ap (λ (c : ℕ). pick (eqb c j) 0 (pair_refusal k (first_loss ls c) (second_loss ls c))) q)

-- the limits of m, and of a server's number
pub count_of : (m : ℕ) → servers_refusal m ≡ 0 → (2 ≤ m) × (m ≤ 16)
count_of m h =
    let both : (ltb m 2 || ltb 16 m) ≡ false = when_none (ltb m 2 || ltb 16 m) 17 h in
    (ltb-false m 2 (or_false_l (ltb m 2) (ltb 16 m) both), ltb-false 16 m (or_false_r (ltb m 2) (ltb 16 m) both))

pub server_of : (m j : ℕ) → server_refusal m j ≡ 0 → (servers_refusal m ≡ 0) × (j ≤ m)
server_of m j h = let x = first_none (servers_refusal m) (when (ltb m j) 18) h in (x.0, ltb-false m j (when_none (ltb m j) 17 x.1))

-- m is no server number over m
pub server_last : (m : ℕ) → server_refusal m m ≡ servers_refusal m
server_last m = ap (λ (b : Bool). first_of (servers_refusal m) (when b 18)) (le-ltb m m (omega arith)) ∙ first_zero (servers_refusal m)

module _ (p k s m : ℕ) (ts : List ℕ) where
  -- the refusals of either call, n the one for the servers
  call_of : (n : ℕ) → call_refusal n p k s m ts ≡ 0 → (n ≡ 0) × (servers_refusal m ≡ 0 → Given p k s m ts)
  call_of n h =
      let x = first_none (shape_refusal p k s) (first_of n (long_refusal (servers_long p k s m) ts)) h in
      let y = first_none n (long_refusal (servers_long p k s m) ts) x.1 in
      let q = shape_of p k s x.0 in (
        y.0,
        λ e.
            record {
              array = q.0;
              some = q.1;
              small = q.2;
              few = (count_of m e).0;
              many = (count_of m e).1;
              long = long_of (servers_long p k s m) ts y.1;
            },
      )

  pub write_of : write_refusal p k s m ts ≡ 0 → Given p k s m ts
  unfolding write_refusal
  write_of h = let x = call_of (servers_refusal m) h in x.1 x.0

  -- a rebuild is not refused
  module _ (j : ℕ) (ls : List ℕ) (h : rebuild_refusal p k s m j ls ts ≡ 0) where
    parts : (call_refusal (server_refusal m j) p k s m ts ≡ 0) × (first_of (long_refusal (2 * suc m) ls) (losses_refusal (suc m) k j ls) ≡ 0)
    unfolding rebuild_refusal
    parts = first_none (call_refusal (server_refusal m j) p k s m ts) (first_of (long_refusal (2 * suc m) ls) (losses_refusal (suc m) k j ls)) h

    servers : (servers_refusal m ≡ 0) × (j ≤ m)
    servers = server_of m j (call_of (server_refusal m j) parts.0).0

    pub rebuild_of : Given p k s m ts
    rebuild_of = (call_of (server_refusal m j) parts.0).1 servers.0

    pub rebuild_losses : GivenLosses k m j ls
    rebuild_losses =
        let x = first_none (long_refusal (2 * suc m) ls) (losses_refusal (suc m) k j ls) parts.1 in
        record { server = omega (arith, servers.1); long = long_of (2 * suc m) ls x.0; pairs = losses_at (suc m) k j ls x.1 }
