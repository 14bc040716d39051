-- Mending the servers one after another: server n's mend changes its own stripe alone, so after n
-- turns each of the first n but j is mended from what it held at first, and the later ones stand.
use mathlib.Core.Path.{◌≡◌, refl, sym, ap, ◌∙◌}
use mathlib.Core.Bool.{Bool, true, false}
use mathlib.Core.Logic.{⊎_elim}
use mathlib.Core.List.{List}
use Prim.Native.Nat.{ℕ, zero, suc, ◌≤◌, ◌<◌}
use native.Mathlib.Omega.{arith}
use lib.Dec.{eqb}
use lib.ListN.{length}
use borrow.Author.Tests.{eqb-false, ne_eqb}
use Rattle.mathematics.specs.Choice.{pick}
use Rattle.mathematics.proofs.OrderLaws.{lt_or_le}
use Rattle.liberation.specs.Stripes.Stripes.{with_cell, stripe_long, is_stripe}
use Rattle.liberation.proofs.Stripes.StripeCellLaws.{length_with, cell_with, cell_other}
use Rattle.liberation.proofs.Stripes.Solving.{bytes_with, stripe_long_lem, stripe_bytes}
use Rattle.liberation.specs.ParityServer.Servers.{server_at, is_servers, first_loss, second_loss, mended, mended_at, mended_all}
use Rattle.liberation.proofs.ParityServer.ServerLaws.{servers_of, servers_long_lem, servers_bytes, server_fits, server_stripe}

-- a slice with another stripe for server n
module _ (p k s m : ℕ) (ts : List ℕ) (all : is_servers p k s m ts ≡ true) (n : ℕ) (l : n < suc m) (new : List ℕ) (stripe : is_stripe p k s new ≡ true) where
  new_long : length new ≡ stripe_long p k s
  new_long = stripe_long_lem p k s new stripe ∙ omega arith

  put_servers : is_servers p k s m (with_cell (stripe_long p k s) n new ts) ≡ true
  put_servers =
      servers_of p k s m (with_cell (stripe_long p k s) n new ts)
      (length_with (stripe_long p k s) n new ts new_long (server_fits p k s m ts all n l) ∙ servers_long_lem p k s m ts all)
      (bytes_with (stripe_long p k s) n new ts (stripe_bytes p k s new stripe) (servers_bytes p k s m ts all))

  put_server : server_at p k s (with_cell (stripe_long p k s) n new ts) n ≡ new
  put_server = cell_with (stripe_long p k s) n new ts new_long (server_fits p k s m ts all n l)

  put_other : (i : ℕ) → (i ≡ n → ⊥) → server_at p k s (with_cell (stripe_long p k s) n new ts) i ≡ server_at p k s ts i
  put_other = cell_other (stripe_long p k s) n new ts new_long (server_fits p k s m ts all n l)

-- mending keeps stripes stripes
module _ (p k s m j : ℕ) (ls ts : List ℕ) (all : is_servers p k s m ts ≡ true) (keeps : (i : ℕ) → i < suc m → (i ≡ j → ⊥) → (t : List ℕ) → is_stripe p k s t ≡ true → is_stripe p k s (mended p k s (first_loss ls i) (second_loss ls i) t) ≡ true) where
  pub all_servers : (n : ℕ) → n ≤ suc m → is_servers p k s m (mended_all n p k s j ls ts) ≡ true
  unfolding mended_all
  all_servers zero h = all
  all_servers (suc n) h = go (eqb n j) refl (all_servers n (omega arith))
    where
      us : List ℕ
      us = mended_all n p k s j ls ts

      go : (b : Bool) → eqb n j ≡ b → is_servers p k s m us ≡ true → is_servers p k s m (pick b us (with_cell (stripe_long p k s) n (mended_at p k s ls us n) us)) ≡ true
      go true e rest = rest
      go false e rest = put_servers p k s m us rest n (omega arith) (mended_at p k s ls us n) (keeps n (omega arith) (eqb-false n j e) (server_at p k s us n) (server_stripe p k s m us rest n (omega arith)))

  -- server n's turn: the others stand, it is mended unless it is j
  module _ (n : ℕ) (h : n < suc m) where
    here : is_servers p k s m (mended_all n p k s j ls ts) ≡ true
    here = all_servers n (omega arith)

    new_stripe : (n ≡ j → ⊥) → is_stripe p k s (mended_at p k s ls (mended_all n p k s j ls ts) n) ≡ true
    new_stripe a = keeps n h a (server_at p k s (mended_all n p k s j ls ts) n) (server_stripe p k s m (mended_all n p k s j ls ts) here n h)

    turn_other : (i : ℕ) → (i ≡ n → ⊥) → server_at p k s (mended_all (suc n) p k s j ls ts) i ≡ server_at p k s (mended_all n p k s j ls ts) i
    unfolding mended_all
    turn_other i a = go (eqb n j) refl
      where
        us : List ℕ
        us = mended_all n p k s j ls ts

        go : (b : Bool) → eqb n j ≡ b → server_at p k s (pick b us (with_cell (stripe_long p k s) n (mended_at p k s ls us n) us)) i ≡ server_at p k s us i
        go true e = refl
        go false e = put_other p k s m us here n h (mended_at p k s ls us n) (new_stripe (eqb-false n j e)) i a

    turn_server : (n ≡ j → ⊥) → server_at p k s (mended_all (suc n) p k s j ls ts) n ≡ mended_at p k s ls (mended_all n p k s j ls ts) n
    unfolding mended_all
    turn_server a =
        ap (λ (b : Bool). server_at p k s (pick b us (with_cell (stripe_long p k s) n (mended_at p k s ls us n) us)) n) (ne_eqb n j a)
        ∙ put_server p k s m us here n h (mended_at p k s ls us n) (new_stripe a)
      where
        us : List ℕ
        us = mended_all n p k s j ls ts

  -- servers whose turn is still to come
  pub all_later : (n i : ℕ) → n ≤ i → i < suc m → server_at p k s (mended_all n p k s j ls ts) i ≡ server_at p k s ts i
  unfolding mended_all
  all_later zero i h l = refl
  all_later (suc n) i h l = turn_other n (omega arith) i (λ e. omega arith) ∙ all_later n i (omega arith) l

  -- servers whose turn was
  pub all_mended : (n i : ℕ) → n ≤ suc m → i < n → (i ≡ j → ⊥) → server_at p k s (mended_all n p k s j ls ts) i ≡ mended_at p k s ls ts i
  all_mended zero i h l a = absurd (omega arith)
  all_mended (suc n) i h l a =
      ⊎_elim
      (λ q. turn_other n (omega arith) i (λ e. omega arith) ∙ all_mended n i (omega arith) q a)
      (λ q. let e : i ≡ n = omega arith in last e)
      (lt_or_le i n)
    where
      last : i ≡ n → server_at p k s (mended_all (suc n) p k s j ls ts) i ≡ mended_at p k s ls ts i
      last e =
          ap (server_at p k s (mended_all (suc n) p k s j ls ts)) e
          ∙ turn_server n (omega arith) (λ q. a (e ∙ q))
          ∙ ap (mended p k s (first_loss ls n) (second_loss ls n)) (all_later n n (omega arith) (omega arith))
          ∙ sym (ap (mended_at p k s ls ts) e)
