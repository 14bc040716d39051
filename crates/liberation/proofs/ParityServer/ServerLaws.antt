-- The m + 1 stripes as cells of one slice: each is a stripe, and the step of all of them for server
-- j writes the XOR of the others there and leaves the others.
use mathlib.Core.Path.{◌≡◌, sym, ap, ◌∙◌}
use mathlib.Core.Bool.{true}
use mathlib.Core.List.{List}
use Prim.Native.Nat.{ℕ, suc, ◌+◌, ◌*◌, ◌≤◌, ◌<◌}
use native.Mathlib.Omega.{arith}
use lib.Dec.{eqb}
use lib.ListN.{length, replicate}
use borrow.Author.Tests.{eqb-true, eq-eqb}
use Rattle.mathematics.specs.Lists.{all_below}
use Rattle.mathematics.specs.Xor.{xor_l, all_bytes}
use Rattle.mathematics.proofs.Flags.{and_l, and_r, and_i}
use Rattle.mathematics.proofs.XorLaws.{xor_l_self}
use Rattle.liberation.specs.Stripes.Stripes.{xor_over, stripe_long, is_stripe, without}
use Rattle.liberation.proofs.Stripes.StripeCellLaws.{cell_fits, cell_long, cells_equal}
use Rattle.liberation.proofs.Stripes.OverLaws.{over_without}
use Rattle.liberation.proofs.Stripes.Solving.{cell_bytes_lem, stripe_of, solved_long, solved_bytes, solved_cell, solved_other, solved_zero, solved_same}
use Rattle.liberation.specs.ParityServer.Servers.{up_to, server_at, servers_long, is_servers, server_solved}
use Rattle.liberation.proofs.ParityServer.UpTo.{lt_up, up_below, up_distinct, without_last}

pub servers_of : (p k s m : ℕ) (ts : List ℕ) → length ts ≡ servers_long p k s m → all_bytes ts ≡ true → is_servers p k s m ts ≡ true
servers_of p k s m ts e h = and_i (eqb (length ts) (servers_long p k s m)) (all_bytes ts) (eq-eqb (length ts) (servers_long p k s m) e) h

module _ (p k s m : ℕ) (ts : List ℕ) (all : is_servers p k s m ts ≡ true) where
  pub servers_long_lem : length ts ≡ servers_long p k s m
  servers_long_lem = eqb-true (length ts) (servers_long p k s m) (and_l (eqb (length ts) (servers_long p k s m)) (all_bytes ts) all)

  pub servers_bytes : all_bytes ts ≡ true
  servers_bytes = and_r (eqb (length ts) (servers_long p k s m)) (all_bytes ts) all

  pub server_fits : (i : ℕ) → i < suc m → i * stripe_long p k s + stripe_long p k s ≤ length ts
  server_fits i l = omega (arith, cell_fits (suc m) (stripe_long p k s) i l, servers_long_lem)

  pub server_stripe : (i : ℕ) → i < suc m → is_stripe p k s (server_at p k s ts i) ≡ true
  server_stripe i l = stripe_of p k s (server_at p k s ts i) (cell_long (stripe_long p k s) i ts (server_fits i l) ∙ omega arith) (cell_bytes_lem (stripe_long p k s) i ts servers_bytes)

  -- the step for server j
  module _ (j : ℕ) (server : j < suc m) where
    below : all_below (suc m) (up_to (suc m)) ≡ true
    below = up_below (suc m) (suc m) (omega arith)

    pub step_servers : is_servers p k s m (server_solved p k s m j ts) ≡ true
    step_servers =
        servers_of p k s m (server_solved p k s m j ts)
        (solved_long (suc m) (stripe_long p k s) j (up_to (suc m)) ts servers_long_lem below (lt_up (suc m) j server) ∙ servers_long_lem)
        (solved_bytes (suc m) (stripe_long p k s) j (up_to (suc m)) ts servers_long_lem below (lt_up (suc m) j server) servers_bytes)

    pub step_server : server_at p k s (server_solved p k s m j ts) j ≡ xor_over (stripe_long p k s) (server_at p k s ts) (without j (up_to (suc m)))
    step_server = solved_cell (suc m) (stripe_long p k s) j (up_to (suc m)) ts servers_long_lem below (lt_up (suc m) j server)

    pub step_other : (i : ℕ) → (i ≡ j → ⊥) → server_at p k s (server_solved p k s m j ts) i ≡ server_at p k s ts i
    step_other = solved_other (suc m) (stripe_long p k s) j (up_to (suc m)) ts servers_long_lem below (lt_up (suc m) j server)

    -- after it the XOR of all is zero; where it was so before, nothing changes
    pub step_zero : xor_over (stripe_long p k s) (server_at p k s (server_solved p k s m j ts)) (up_to (suc m)) ≡ replicate (stripe_long p k s) 0
    step_zero = solved_zero (suc m) (stripe_long p k s) j (up_to (suc m)) ts servers_long_lem below (lt_up (suc m) j server) (up_distinct (suc m))

    pub step_same : xor_over (stripe_long p k s) (server_at p k s ts) (up_to (suc m)) ≡ replicate (stripe_long p k s) 0 → server_solved p k s m j ts ≡ ts
    step_same = solved_same (suc m) (stripe_long p k s) j (up_to (suc m)) ts servers_long_lem below (lt_up (suc m) j server) (up_distinct (suc m)) servers_bytes

  -- the extra is the XOR of the rest: the XOR of all is zero
  pub extra_zero : server_at p k s ts m ≡ xor_over (stripe_long p k s) (server_at p k s ts) (up_to m) → xor_over (stripe_long p k s) (server_at p k s ts) (up_to (suc m)) ≡ replicate (stripe_long p k s) 0
  extra_zero e =
      over_without (stripe_long p k s) (server_at p k s ts) m (up_to (suc m)) (up_distinct (suc m)) (lt_up (suc m) m (omega arith))
      ∙ ap (λ (xs : List ℕ). xor_l (server_at p k s ts m) (xor_over (stripe_long p k s) (server_at p k s ts) xs)) (without_last m)
      ∙ ap (xor_l (server_at p k s ts m)) (sym e)
      ∙ xor_l_self (server_at p k s ts m)
      ∙ ap (λ (n : ℕ). replicate n 0) (cell_long (stripe_long p k s) m ts (server_fits m (omega arith)))

-- told by its servers
pub servers_equal : (p k s m : ℕ) (ts us : List ℕ) → is_servers p k s m ts ≡ true → is_servers p k s m us ≡ true → ((i : ℕ) → i < suc m → server_at p k s ts i ≡ server_at p k s us i) → ts ≡ us
servers_equal p k s m ts us ht hu h = cells_equal (suc m) (stripe_long p k s) ts us (servers_long_lem p k s m ts ht) (servers_long_lem p k s m us hu) h
