-- The first number that passes a test: it passes where there is one, and no number that passes is
-- before it.
use mathlib.Core.Path.{◌≡◌, refl, sym, ap, ◌∙◌}
use mathlib.Core.Bool.{Bool, true, false}
use mathlib.Core.Logic.{⊎_elim}
use Prim.Native.Nat.{ℕ, zero, suc, ◌+◌, ◌≤◌, ◌<◌}
use native.Mathlib.Omega.{arith}
use Rattle.mathematics.specs.Choice.{pick}
use Rattle.mathematics.proofs.Flags.{clash}
use Rattle.mathematics.proofs.OrderLaws.{lt_or_le}
use Rattle.mathematics.specs.Sums.{first_from}

pub first_passes : (n d : ℕ) (f : ℕ → Bool) → first_from n d f < d + n → f (first_from n d f) ≡ true
unfolding first_from
first_passes zero d f h = absurd (omega arith)
first_passes (suc n) d f h = go (f d) refl (λ l. first_passes n (suc d) f l) h
  where
    go : (b : Bool) → f d ≡ b → (first_from n (suc d) f < suc d + n → f (first_from n (suc d) f) ≡ true) → pick b d (first_from n (suc d) f) < d + suc n → f (pick b d (first_from n (suc d) f)) ≡ true
    go true e rest l = e
    go false e rest l = rest (omega arith)

pub first_least : (n d c : ℕ) (f : ℕ → Bool) → d ≤ c → c < d + n → f c ≡ true → first_from n d f ≤ c
unfolding first_from
first_least zero d c f l m h = absurd (omega arith)
first_least (suc n) d c f l m h = go (f d) refl (λ q. first_least n (suc d) c f q (omega arith) h)
  where
    go : (b : Bool) → f d ≡ b → (suc d ≤ c → first_from n (suc d) f ≤ c) → pick b d (first_from n (suc d) f) ≤ c
    go true e rest = l
    go false e rest = ⊎_elim (λ q. rest q) (λ q. let w : d ≡ c = omega arith in clash (f c) h (ap f (sym w) ∙ e)) (lt_or_le d c)
