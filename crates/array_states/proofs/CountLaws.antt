-- The totals with one array more.
use mathlib.Core.Path.{◌≡◌, sym, ap, ap₂, ◌∙◌}
use mathlib.Core.Bool.{Bool}
use Prim.Native.Nat.{ℕ, ◌+◌, ◌<◌, ◌≤◌}
use native.Mathlib.Omega.{arith}
use lib.Dec.{eqb}
use borrow.Author.Tests.{ne_eqb, le-leb}
use Rattle.mathematics.specs.Choice.{when}
use Rattle.array_states.specs.declared.totals.Totals.{Totals}
use Rattle.array_states.specs.OnePass.{counted_on}

-- totals by their numbers
pub totals_are : {a b c d a' b' c' d' : ℕ} → a ≡ a' → b ≡ b' → c ≡ c' → d ≡ d'
    → ◌≡◌ {A = Totals} (record { optimal = a; degraded = b; critical = c; failed = d }) (record { optimal = a'; degraded = b'; critical = c'; failed = d' })
totals_are {a} {b} {c} {d} {a'} {b'} {c'} {d'} e f g h =
    ap₂ (λ (x y : ℕ). record { optimal = x; degraded = y; critical = c; failed = d }) e f ∙ ap₂ (λ (x y : ℕ). record { optimal = a'; degraded = b'; critical = x; failed = y }) g h

-- an array that has lost no disk, one, two, or more
pub count_none : (t : Totals) (n : ℕ) → n ≡ 0 → ◌≡◌ {A = Totals} (record { optimal = t.optimal + 1; degraded = t.degraded; critical = t.critical; failed = t.failed }) (counted_on t n)
count_none t n e = totals_are (omega arith) (omega arith) (omega arith) (omega arith) ∙ ap (counted_on t) (sym e)

pub count_one : (t : Totals) (n : ℕ) → n ≡ 1 → ◌≡◌ {A = Totals} (record { optimal = t.optimal; degraded = t.degraded + 1; critical = t.critical; failed = t.failed }) (counted_on t n)
count_one t n e = totals_are (omega arith) (omega arith) (omega arith) (omega arith) ∙ ap (counted_on t) (sym e)

pub count_two : (t : Totals) (n : ℕ) → (n ≡ 0 → ⊥) → (n ≡ 1 → ⊥) → n < 3 → ◌≡◌ {A = Totals} (record { optimal = t.optimal; degraded = t.degraded; critical = t.critical + 1; failed = t.failed }) (counted_on t n)
count_two t n a b l = let e : n ≡ 2 = omega arith in totals_are (omega arith) (omega arith) (omega arith) (omega arith) ∙ ap (counted_on t) (sym e)

pub count_more : (t : Totals) (n : ℕ) → 3 ≤ n → ◌≡◌ {A = Totals} (record { optimal = t.optimal; degraded = t.degraded; critical = t.critical; failed = t.failed + 1 }) (counted_on t n)
count_more t n h =
    let no : (m x : ℕ) → (n ≡ m → ⊥) → x ≡ x + when (eqb n m) 1 = λ m x d. omega (arith, ap (λ (b : Bool). when b 1) (ne_eqb n m d)) in
    totals_are (no 0 _ (λ e. omega arith)) (no 1 _ (λ e. omega arith)) (no 2 _ (λ e. omega arith)) (omega (arith, ap (λ (b : Bool). when b 1) (le-leb 3 n h)))
