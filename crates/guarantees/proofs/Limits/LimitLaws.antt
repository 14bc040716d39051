-- One test decides one limit, and tests one after another decide limits one after another.
use mathlib.Core.Path.{◌≡◌, refl, sym, ap, ◌∙◌, subst}
use mathlib.Core.Bool.{Bool, true, false, ◌&&◌, ◌||◌, not, true≢false}
use mathlib.Core.Logic.{inl, inr}
use Prim.Native.Nat.{ℕ, zero, suc}
use native.Mathlib.Omega.{arith}
use lib.Dec.{eqb}
use borrow.Author.Tests.{eqb-false, ne_eqb, not-true}
use Rattle.mathematics.specs.Choice.{pick, when, first_of}
use Rattle.mathematics.proofs.Flags.{and_l, and_r, or_false_l, or_false_r}
use Rattle.mathematics.proofs.ChoiceLaws.{pick_refused}
use Rattle.refusals.specs.declared.answer.Answer.{Answer}
use Rattle.refusals.specs.Answers.{Answers}
use Rattle.guarantees.specs.Limits.Limits.{Limits, none, limit, by, ◌then◌, Within, RefusedBy, Cases, Decides, Refuses}

-- ---- one limit
-- a test with a place that fails exactly within a limit
pub test_at : (b : Bool) (n i : ℕ) {L : Type 0} → (b ≡ false → L) → (L → b ≡ false) → Decides (limit (suc n) i L none) (when b (suc n)) (when b i)
test_at true n i f g = record { cases = inr (λ l. true≢false (g l), record { number_is = refl; place_is = refl; some = omega arith }) }
test_at false n i f g = record { cases = inl (f refl, (refl, refl)) }

-- the same without a place
pub test : (b : Bool) (n : ℕ) {L : Type 0} → (b ≡ false → L) → (L → b ≡ false) → Decides (by (suc n) L) (when b (suc n)) 0
test true n f g = test_at true n 0 f g
test false n f g = test_at false n 0 f g

pub test_not : (b : Bool) (n : ℕ) {L : Type 0} → (b ≡ true → L) → (L → b ≡ true) → Decides (by (suc n) L) (when (not b) (suc n)) 0
test_not true n f g = test false n (λ e. f refl) (λ l. refl)
test_not false n f g = test true n (λ e. absurd (true≢false e)) (λ l. sym (g l))

-- either of two fails outside a limit of two parts
pub test_or : (b c : Bool) (n : ℕ) {L M : Type 0} → (b ≡ false → L) → (L → b ≡ false) → (c ≡ false → M) → (M → c ≡ false) → Decides (by (suc n) (L × M)) (when (b || c) (suc n)) 0
test_or b c n f g h i = test (b || c) n (λ e. (f (or_false_l b c e), h (or_false_r b c e))) (λ l. ap (λ (x : Bool). x || c) (g l.0) ∙ i l.1)

-- ---- limits one after another
-- the first of two numbers, with its place
pub and_then : {ls ks : Limits} {n m a b : ℕ} → Decides ls n a → (Within ls → Decides ks m b) → Decides (ls then ks) (first_of n m) (pick (eqb n 0) b a)
and_then {ls} {ks} {n} {m} {a} {b} d e = record { cases = go ls n d.cases (λ w. (e w).cases) }
  where
    go : (ls : Limits) (n : ℕ) → Cases ls n a → (Within ls → Cases ks m b) → Cases (ls then ks) (first_of n m) (pick (eqb n 0) b a)
    go none zero d e = e tt
    go none (suc n) d e = absurd (omega (arith, d.0))
    go (limit i at L ls) n (inl d) e = inl (d.0, go ls n d.1 (λ w. e (d.0, w)))
    go (limit i at L ls) zero (inr d) e = absurd (omega (arith, d.1.some))
    go (limit i at L ls) (suc n) (inr d) e = inr (d.0, record { number_is = d.1.number_is; place_is = ap (λ (c : Bool). pick c b a) (ne_eqb (suc n) 0 (λ z. omega arith)) ∙ d.1.place_is; some = omega arith })

-- where neither has a place
pub then_zero : {ls ks : Limits} {n m : ℕ} → Decides ls n 0 → (Within ls → Decides ks m 0) → Decides (ls then ks) (first_of n m) 0
then_zero {ls} {ks} {n} {m} d e = subst (λ (a : ℕ). Decides (ls then ks) (first_of n m) a) (same (eqb n 0)) (and_then d e)
  where
    same : (b : Bool) → ◌≡◌ {A = ℕ} (pick b 0 0) 0
    same true = refl
    same false = refl

-- limits that all hold decide 0
pub holds : (ls : Limits) → Within ls → Decides ls 0 0
holds ls w = record { cases = go ls w }
  where
    go : (ls : Limits) → Within ls → Cases ls 0 0
    go none w = (refl, refl)
    go (limit n at L ls) w = inl (w.0, go ls w.1)

-- ---- what a decision means
-- number 0 within all limits, and only there
pub within_zero : {ls : Limits} {n a : ℕ} → Decides ls n a → Within ls → n ≡ 0
within_zero {ls} {n} {a} d w = go ls d.cases w
  where
    go : (ls : Limits) → Cases ls n a → Within ls → n ≡ 0
    go none d w = d.0
    go (limit i at L ls) (inl d) w = go ls d.1 w.1
    go (limit i at L ls) (inr d) w = absurd (d.0 w.0)

pub zero_within : {ls : Limits} {n a : ℕ} → Decides ls n a → n ≡ 0 → Within ls
zero_within {ls} {n} {a} d z = go ls d.cases
  where
    go : (ls : Limits) → Cases ls n a → Within ls
    go none d = tt
    go (limit i at L ls) (inl d) = (d.0, go ls d.1)
    go (limit i at L ls) (inr d) = absurd (omega (arith, d.1.some))

-- within the limits before it and outside this one: its refusal, whatever comes after
pub first_outside : (ls ks : Limits) {i at n a : ℕ} {L : Type 0} → Decides (ls then limit i at L ks) n a → Within ls → (L → ⊥) → RefusedBy i at n a
first_outside ls ks {i} {at} {n} {a} {L} d w o = go ls d.cases w
  where
    go : (ls : Limits) → Cases (ls then limit i at L ks) n a → Within ls → RefusedBy i at n a
    go none (inl d) w = absurd (o d.0)
    go none (inr d) w = d.1
    go (limit j b M ls) (inl d) w = go ls d.1 w.1
    go (limit j b M ls) (inr d) w = absurd (d.0 w.0)

-- no two answers are within the same limits
pub decides_once : {ls : Limits} {n m a b : ℕ} → Decides ls n a → Decides ls m b → (n ≡ m) × (a ≡ b)
decides_once {ls} {n} {m} {a} {b} d e = go ls d.cases e.cases
  where
    go : (ls : Limits) → Cases ls n a → Cases ls m b → (n ≡ m) × (a ≡ b)
    go none d e = (d.0 ∙ sym e.0, d.1 ∙ sym e.1)
    go (limit i at L ls) (inl d) (inl e) = go ls d.1 e.1
    go (limit i at L ls) (inl d) (inr e) = absurd (e.0 d.0)
    go (limit i at L ls) (inr d) (inl e) = absurd (d.0 e.0)
    go (limit i at L ls) (inr d) (inr e) = (d.1.number_is ∙ sym e.1.number_is, d.1.place_is ∙ sym e.1.place_is)

-- a number that is none of the first limits' comes from those after them
abbrev pub lacks : ℕ → Limits → Bool
lacks n none = true
lacks n (limit i at L ls) = not (eqb n i) && lacks n ls

pub comes_after : (ls ks : Limits) {n a : ℕ} → lacks n ls ≡ true → Decides (ls then ks) n a → Within ls × Decides ks n a
comes_after ls ks {n} {a} h d = let q = go ls h d.cases in (q.0, record { cases = q.1 })
  where
    go : (ls : Limits) → lacks n ls ≡ true → Cases (ls then ks) n a → Within ls × Cases ks n a
    go none h d = (tt, d)
    go (limit i at L ls) h (inl d) = let q = go ls (and_r (not (eqb n i)) (lacks n ls) h) d.1 in ((d.0, q.0), q.1)
    go (limit i at L ls) h (inr d) = absurd (eqb-false n i (not-true (eqb n i) (and_l (not (eqb n i)) (lacks n ls) h)) d.1.number_is)

-- ---- demand 1 from what decides, for an answer with a place and for one without
pub refuses_at : {ls : Limits} {S : Type 0} {n at : ℕ} (a : Answer) → Decides ls n at → a.refusal ≡ n → a.place ≡ at → ((a.refusal ≡ 0 → ⊥) → S) → Refuses ls S a
refuses_at {ls} {S} {n} {at} a d e f s =
    let g : Decides ls a.refusal a.place = subst (λ (x : ℕ). Decides ls x a.place) (sym e) (subst (λ (x : ℕ). Decides ls n x) (sym f) d) in
    record { decides = g; accepts = within_zero g; accepted = zero_within g; stands = s }

pub refuses : {ls : Limits} {S : Type 0} {n : ℕ} (a : Answer) → Decides ls n 0 → Answers n a → ((a.refusal ≡ 0 → ⊥) → S) → Refuses ls S a
refuses a d k s = refuses_at a d k.refusal k.place s

-- what stands where a call is refused
pub kept : {A : Type 0} (n m : ℕ) (x y z : A) → n ≡ m → z ≡ pick (eqb m 0) x y → (n ≡ 0 → ⊥) → z ≡ y
kept n m x y z e h r = h ∙ sym (pick_refused n m x y e r)
