-- Tests of numbers: two tests are the same flag where the facts that they test follow from one
-- another.
use mathlib.Core.Path.{◌≡◌, refl, sym, ap₂}
use mathlib.Core.Bool.{Bool, false, ◌&&◌, ◌||◌}
use mathlib.Core.Logic.{⊎_elim}
use Prim.Native.Nat.{ℕ, suc, ◌+◌, ◌≤◌, ◌<◌}
use native.Mathlib.Omega.{arith}
use lib.Dec.{eqb, ltb, leb}
use borrow.Author.Tests.{eqb-true, eq-eqb, ne_eqb, leb-true, le-leb, lt-leb, lt-ltb, le-ltb}
use Rattle.mathematics.proofs.Flags.{same_flag}
use Rattle.mathematics.proofs.OrderLaws.{lt_or_le}

pub eqb_same : (a b c d : ℕ) → (a ≡ b → c ≡ d) → (c ≡ d → a ≡ b) → eqb a b ≡ eqb c d
eqb_same a b c d f g = same_flag (eqb a b) (eqb c d) (λ e. eq-eqb c d (f (eqb-true a b e))) (λ e. eq-eqb a b (g (eqb-true c d e)))

pub leb_same : (a b c d : ℕ) → (a ≤ b → c ≤ d) → (c ≤ d → a ≤ b) → leb a b ≡ leb c d
leb_same a b c d f g = same_flag (leb a b) (leb c d) (λ e. le-leb c d (f (leb-true a b e))) (λ e. le-leb a b (g (leb-true c d e)))

pub eqb_sym : (a b : ℕ) → eqb a b ≡ eqb b a
eqb_sym a b = eqb_same a b b a (λ e. sym e) (λ e. sym e)

-- x is one of the n numbers from c on
abbrev pub in_range : ℕ → ℕ → ℕ → Bool
in_range c n x = leb c x && ltb x (c + n)

pub range_zero : (c x : ℕ) → in_range c 0 x ≡ false
range_zero c x = ⊎_elim (λ l. ap₂ ◌&&◌ (lt-leb c x l) refl) (λ l. ap₂ ◌&&◌ (le-leb c x l) (le-ltb x (c + 0) (omega arith))) (lt_or_le x c)

-- c itself, or one of the n after it
pub range_suc : (c n x : ℕ) → in_range c (suc n) x ≡ (eqb x c || in_range (suc c) n x)
range_suc c n x = ⊎_elim before (λ l. ⊎_elim after (here l) (lt_or_le c x)) (lt_or_le x c)
  where
    before : x < c → in_range c (suc n) x ≡ (eqb x c || in_range (suc c) n x)
    before l = simp (lt-leb c x l, ne_eqb x c (λ e. omega arith), lt-leb (suc c) x (omega arith))

    here : c ≤ x → x ≤ c → in_range c (suc n) x ≡ (eqb x c || in_range (suc c) n x)
    here l m = simp (le-leb c x l, lt-ltb x (c + suc n) (omega arith), eq-eqb x c (omega arith))

    after : c < x → in_range c (suc n) x ≡ (eqb x c || in_range (suc c) n x)
    after l = simp (le-leb c x (omega arith), ne_eqb x c (λ e. omega arith), le-leb (suc c) x l) (leb_same (suc x) (c + suc n) (suc x) (suc c + n) (λ h. omega arith) (λ h. omega arith))

-- below j + 1: j itself, or below j
pub ltb_next : (x j : ℕ) → (eqb x j || ltb x j) ≡ ltb x (suc j)
ltb_next x j = ⊎_elim below (λ l. ⊎_elim above (here l) (lt_or_le j x)) (lt_or_le x j)
  where
    below : x < j → (eqb x j || ltb x j) ≡ ltb x (suc j)
    below l = simp (ne_eqb x j (λ e. omega arith), lt-ltb x j l, lt-ltb x (suc j) (omega arith))

    here : j ≤ x → x ≤ j → (eqb x j || ltb x j) ≡ ltb x (suc j)
    here l m = simp (eq-eqb x j (omega arith), lt-ltb x (suc j) (omega arith))

    above : j < x → (eqb x j || ltb x j) ≡ ltb x (suc j)
    above l = simp (ne_eqb x j (λ e. omega arith), le-ltb x j (omega arith), le-ltb x (suc j) (omega arith))
