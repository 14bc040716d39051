-- "the lost server's own pair is not read": neither the refusals nor the slice depend on it.
use mathlib.Core.Path.{◌≡◌, refl, ap, ap₂, ◌∙◌}
use mathlib.Core.Bool.{Bool, true, false, not}
use mathlib.Core.List.{List}
use Prim.Native.Nat.{ℕ, zero, suc, ◌*◌, ◌≤◌, ◌<◌}
use native.Mathlib.Omega.{arith}
use lib.Dec.{eqb}
use lib.ListN.{length}
use borrow.Author.Tests.{eqb-false}
use Rattle.mathematics.specs.Choice.{pick, when, first_of}
use Rattle.liberation.specs.Stripes.Stripes.{with_cell, stripe_long}
use Rattle.liberation.specs.ParityServer.Servers.{server_at, first_loss, second_loss, server_solved, mended, mended_at, mended_all, server_rebuilt, server_refusal, pair_refusal, losses_refusal, call_refusal, rebuild_refusal}

-- two lists of losses alike but for server j's
module _ (p k s m j : ℕ) (ls ms : List ℕ) (same : (i : ℕ) → i < suc m → (i ≡ j → ⊥) → (first_loss ls i ≡ first_loss ms i) × (second_loss ls i ≡ second_loss ms i)) where
  losses_unread : (n : ℕ) → n ≤ suc m → losses_refusal n k j ls ≡ losses_refusal n k j ms
  unfolding losses_refusal
  losses_unread zero h = refl
  losses_unread (suc n) h = ap₂ first_of (losses_unread n (omega arith)) (go (eqb n j) refl)
    where
      go : (b : Bool) → eqb n j ≡ b → pick b 0 (pair_refusal k (first_loss ls n) (second_loss ls n)) ≡ pick b 0 (pair_refusal k (first_loss ms n) (second_loss ms n))
      go true e = refl
      go false e = let w = same n (omega arith) (eqb-false n j e) in ap₂ (pair_refusal k) w.0 w.1

  mended_unread : (n : ℕ) (ts : List ℕ) → n ≤ suc m → mended_all n p k s j ls ts ≡ mended_all n p k s j ms ts
  unfolding mended_all
  mended_unread zero ts h = refl
  mended_unread (suc n) ts h = ap (λ (us : List ℕ). pick (eqb n j) us (with_cell (stripe_long p k s) n (mended_at p k s ls us n) us)) (mended_unread n ts (omega arith)) ∙ go (mended_all n p k s j ms ts) (eqb n j) refl
    where
      go : (us : List ℕ) (b : Bool) → eqb n j ≡ b → pick b us (with_cell (stripe_long p k s) n (mended_at p k s ls us n) us) ≡ pick b us (with_cell (stripe_long p k s) n (mended_at p k s ms us n) us)
      go us true e = refl
      go us false e = let w = same n (omega arith) (eqb-false n j e) in ap₂ (λ (a b : ℕ). with_cell (stripe_long p k s) n (mended p k s a b (server_at p k s us n)) us) w.0 w.1

  pub refusal_unread : (ts : List ℕ) → length ls ≡ length ms → rebuild_refusal p k s m j ls ts ≡ rebuild_refusal p k s m j ms ts
  unfolding rebuild_refusal
  refusal_unread ts e = ap (first_of (call_refusal (server_refusal m j) p k s m ts)) (ap₂ first_of (ap (λ (n : ℕ). when (not (eqb n (2 * suc m))) 5) e) (losses_unread (suc m) (omega arith)))

  pub rebuilt_unread : (ts : List ℕ) → server_rebuilt p k s m j ls ts ≡ server_rebuilt p k s m j ms ts
  unfolding server_rebuilt
  rebuilt_unread ts = ap (server_solved p k s m j) (mended_unread (suc m) ts (omega arith))
