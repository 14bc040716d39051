-- The numbers below n as a list: its members, each once, and one of them taken out.
use mathlib.Core.Path.{◌≡◌, refl, sym, ap, ap₂, ◌∙◌}
use mathlib.Core.Bool.{Bool, true, ◌||◌, or-false, or_comm}
use mathlib.Core.List.{[], ◌∷◌, ◌++◌, append-nil}
use Prim.Native.Nat.{ℕ, zero, suc, ◌≤◌, ◌<◌}
use native.Mathlib.Omega.{arith}
use lib.Dec.{eqb, ltb}
use lib.ListN.{length, length-append}
use borrow.Author.Tests.{eq-eqb, ne_eqb, ltb-true, lt-ltb, le-ltb}
use Rattle.mathematics.specs.Choice.{pick}
use Rattle.mathematics.specs.Lists.{is_in, distinct, all_below}
use Rattle.mathematics.proofs.Flags.{and_i}
use Rattle.mathematics.proofs.ListLaws.{is_in_append, below_append}
use Rattle.mathematics.proofs.MemberLaws.{distinct_snoc}
use Rattle.mathematics.proofs.KeptLaws.{kept_append}
use Rattle.mathematics.proofs.TestLaws.{ltb_next}
use Rattle.liberation.specs.Stripes.Stripes.{without}
use Rattle.liberation.proofs.Stripes.OverLaws.{without_keeps}
use Rattle.liberation.specs.ParityServer.Servers.{up_to}

pub in_up : (n x : ℕ) → is_in x (up_to n) ≡ ltb x n
unfolding up_to
in_up zero x = sym (le-ltb x 0 (omega arith))
in_up (suc n) x = is_in_append x (up_to n) (n ∷ []) ∙ ap₂ ◌||◌ (in_up n x) (or-false (eqb x n)) ∙ or_comm (ltb x n) (eqb x n) ∙ ltb_next x n

pub up_lt : (n x : ℕ) → is_in x (up_to n) ≡ true → x < n
up_lt n x h = ltb-true x n (sym (in_up n x) ∙ h)

pub lt_up : (n x : ℕ) → x < n → is_in x (up_to n) ≡ true
lt_up n x h = in_up n x ∙ lt-ltb x n h

pub up_below : (m n : ℕ) → n ≤ m → all_below m (up_to n) ≡ true
unfolding up_to
up_below m zero h = refl
up_below m (suc n) h = below_append m (up_to n) (n ∷ []) (up_below m n (omega arith)) (and_i (ltb n m) true (lt-ltb n m (omega arith)) refl)

pub up_distinct : (n : ℕ) → distinct (up_to n) ≡ true
unfolding up_to
up_distinct zero = refl
up_distinct (suc n) = distinct_snoc n (up_to n) (up_distinct n) (in_up n n ∙ le-ltb n n (omega arith))

pub up_long : (n : ℕ) → length (up_to n) ≡ n
unfolding up_to
up_long zero = refl
up_long (suc n) = length-append (up_to n) (n ∷ []) ∙ omega (arith, up_long n)

-- a number taken out of the list turn by turn, of a list of lower numbers, and the last number
pub without_turn : (x n : ℕ) → without x (up_to (suc n)) ≡ without x (up_to n) ++ pick (eqb x n) [] (n ∷ [])
unfolding up_to without
without_turn x n = kept_append (without_keeps x) (up_to n) (n ∷ [])

without_above : (x n : ℕ) → n ≤ x → without x (up_to n) ≡ up_to n
unfolding up_to without
without_above x zero h = refl
without_above x (suc n) h =
    without_turn x n
    ∙ ap₂ ◌++◌ (without_above x n (omega arith)) (ap (λ (b : Bool). pick b [] (n ∷ [])) (ne_eqb x n (λ e. omega arith)))

pub without_last : (n : ℕ) → without n (up_to (suc n)) ≡ up_to n
without_last n =
    without_turn n n
    ∙ ap₂ ◌++◌ (without_above n n (omega arith)) (ap (λ (b : Bool). pick b [] (n ∷ [])) (eq-eqb n n refl))
    ∙ append-nil (up_to n)
