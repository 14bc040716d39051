-- Ask 11 of document 02, said of the rebuild with tested survivors: whatever it returns, as long as
-- it keeps its promise. t is the lent stripe, o a column as it was lent, o' as it is given back.
-- `Explains p k s f t u` says that u is a clean stripe which agrees with t in every cell that
-- survives the loss of disk f; what t holds for that disk plays no part.
use mathlib.Core.Path.{◌≡◌, sym, ap, ◌∙◌}
use mathlib.Core.Bool.{Bool, true, false, not}
use mathlib.Core.Logic.{◌⊎◌, inl, inr, ⊎_elim}
use mathlib.Core.List.{List}
use Prim.Native.Nat.{ℕ, ◌+◌, ◌*◌, ◌≤◌, ◌<◌}
use native.Mathlib.Nat.{div-lt_iff_lt-mul}
use native.Mathlib.Omega.{arith}
use lib.Dec.{eqb}
use lib.ListN.{length}
use borrow.Author.Tests.{ne_eqb}
use Rattle.mathematics.specs.Choice.{pick, when, first_of}
use Rattle.mathematics.proofs.Flags.{flag}
use Rattle.mathematics.proofs.ChoiceLaws.{first_is, pick_refused}
use Rattle.liberation.specs.Sets.{disk_at}
use Rattle.liberation.proofs.Widths.{width_least}
use Rattle.liberation.specs.Stripes.Stripes.{cell_at, column_of, is_stripe, rebuilt}
use Rattle.liberation.specs.Stripes.StripeLimits.{Sized}
use Rattle.liberation.proofs.TwoDisks.PairLaws.{pair_only}
use Rattle.liberation.specs.Scrub.Survivors.{with_rebuilt, fits}
use Rattle.liberation.specs.Scrub.Explained.{Explains}
use Rattle.liberation.proofs.Scrub.Explaining.{fits_explains, explains_fits, explains_column, none_unfit}
use Rattle.refusals.specs.declared.answer.Answer.{Answer}
use Rattle.rebuild_one.specs.RebuildOneSays.{one_refusal, OneSays}
use Rattle.rebuild_one.proofs.OneRefusals.{refusal_none}
use Rattle.rebuild_tested.specs.Says.{tested_refusal, TestedSays}
use Rattle.guarantees.specs.Limits.Limits.{none, Within}
use Rattle.guarantees.specs.Limits.Calls.{rebuild_one, rebuild_tested}
use Rattle.guarantees.proofs.Limits.LimitLaws.{first_outside}
use Rattle.guarantees.proofs.Limits.Demand1.{demand1}
use Rattle.guarantees.proofs.Stripes.{is_stripe_lem}

-- What the tested rebuild answers where the rebuild without a test accepts.
pub record Tested (p k s f : ℕ) (t o o' : List ℕ) (r : Answer) : Type 0 where
  -- it refuses by 19 exactly if no clean stripe has all surviving cells
  pub says_none : r.refusal ≡ 19 → (u : List ℕ) → Explains p k s f t u → ⊥
  pub if_none : ((u : List ℕ) → Explains p k s f t u → ⊥) → r.refusal ≡ 19
  -- otherwise it accepts, some clean stripe has them, and the column is that of every such stripe
  pub either : (r.refusal ≡ 0) ⊎ (r.refusal ≡ 19)
  pub some : r.refusal ≡ 0 → (u : List ℕ) × Explains p k s f t u
  pub writes : (u : List ℕ) → Explains p k s f t u → (r.refusal ≡ 0) × (o' ≡ column_of p s f u)

module _ (p k s f : ℕ) (t o o' : List ℕ) (r : Answer) (d : TestedSays p k s f t o o' r) where
  -- "the column stands on every refusal"
  pub stands : (r.refusal ≡ 0 → ⊥) → o' ≡ o
  stands z = d.column ∙ sym (pick_refused r.refusal (tested_refusal p k s f t o) (rebuilt p k s f t) o d.answer.refusal z)

  -- where the rebuild without a test refuses, so does this one, by the same number
  pub refuses_alike : (n' : List ℕ) (q : Answer) → OneSays p k s f t o n' q → (q.refusal ≡ 0 → ⊥) → r.refusal ≡ q.refusal
  refuses_alike n' q c z =
      let e = c.answer.refusal in
      d.answer.refusal ∙ first_is (one_refusal p k s f t o) (when (not (fits p k s f t)) 19) (ne_eqb (one_refusal p k s f t o) 0 (λ w. z (e ∙ w))) ∙ sym e

  module _ (e : one_refusal p k s f t o ≡ 0) where
    within : Sized p k s t × (f ≤ k + 1) × (length o ≡ p * s)
    within = refusal_none p k s f (length o) t e

    ok : is_stripe p k s t ≡ true
    ok = is_stripe_lem p k s t within.0.long d.bytes

    below : f < k + 2
    below = omega (arith, within.1)

    refusal_is : (b : Bool) → fits p k s f t ≡ b → tested_refusal p k s f t o ≡ when (not b) 19
    refusal_is b q = ap (λ (n : ℕ). first_of n (when (not (fits p k s f t)) 19)) e ∙ ap (λ (c : Bool). when (not c) 19) q

    answer_is : (b : Bool) → fits p k s f t ≡ b → r.refusal ≡ when (not b) 19
    answer_is b q = d.answer.refusal ∙ refusal_is b q

    fit : (u : List ℕ) → Explains p k s f t u → fits p k s f t ≡ true
    fit u x = explains_fits p k s f within.0.array.width within.0.array.disks below t ok u x

    tested_so : Tested p k s f t o o' r
    tested_so =
        record {
          says_none = λ h u x. omega (arith, answer_is true (fit u x), h);
          if_none = λ n. answer_is false (none_unfit p k s f within.0.array.width within.0.array.disks below t ok n);
          either = ⊎_elim (λ q. inl (answer_is true q)) (λ q. inr (answer_is false q)) (flag (fits p k s f t));
          some = λ h. ⊎_elim (λ q. (with_rebuilt p k s f t, fits_explains p k s f within.0.array.width within.0.array.disks below t ok q)) (λ q. absurd (omega (arith, answer_is false q, h))) (flag (fits p k s f t));
          writes = λ u x. (
            answer_is true (fit u x),
            d.column ∙ ap (λ (n : ℕ). pick (eqb n 0) (rebuilt p k s f t) o) (refusal_is true (fit u x)) ∙ sym (explains_column p k s f within.0.array.width within.0.array.disks below t ok u x),
          );
        }

pub tested : (p k s f : ℕ) (t o o' n' : List ℕ) (r q : Answer) → TestedSays p k s f t o o' r → OneSays p k s f t o n' q → q.refusal ≡ 0 → Tested p k s f t o o' r
tested p k s f t o o' n' r q d c z = tested_so p k s f t o o' r d (sym c.answer.refusal ∙ z)

-- A change on one surviving disk is always noticed: where the call accepts t, it refuses by 19
-- every stripe u that differs from t in some cell x of a surviving disk and agrees with t on all
-- others that survive.
pub change_noticed :
    (p k s f x : ℕ) (t u o o' n n' : List ℕ) (r q : Answer) → TestedSays p k s f t o o' r → r.refusal ≡ 0 → TestedSays p k s f u n n' q → length u ≡ length t → length n ≡ length o
    → ((y : ℕ) → y < p * (k + 2) → (disk_at p y ≡ f → ⊥) → (disk_at p y ≡ disk_at p x → ⊥) → cell_at s t y ≡ cell_at s u y)
    → x < p * (k + 2) → (disk_at p x ≡ f → ⊥) → (cell_at s t x ≡ cell_at s u x → ⊥) → q.refusal ≡ 19
change_noticed p k s f x t u o o' n n' r q d z e lu ln others below apart changed =
    (first_outside (rebuild_one p k s f u n) none (demand1.rebuild_tested_lem p k s f u n n' q e).decides
    (w.0, (w.1.0, (w.1.1.0, (w.1.1.1.0, (lu ∙ w.1.1.1.1.0, (ln ∙ w.1.1.1.1.1.0, tt)))))) no_other).number_is
  where
    w : Within (rebuild_tested p k s f t o)
    w = (demand1.rebuild_tested_lem p k s f t o o' r d).accepted z

    -- the clean stripe with the survivors of t
    own : (v : List ℕ) × Explains p k s f t v
    own = w.1.1.1.1.1.1.0

    some : 0 < p
    some = omega (arith, width_least p w.0)

    -- one with those of u agrees with it off two disks, so it is the same, and u is not changed
    no_other : (v : List ℕ) × Explains p k s f u v → ⊥
    no_other (v, h) =
        let g = own.1 in
        let same : own.0 ≡ v =
        pair_only p k s f (disk_at p x) w.0 w.1.0.1 (omega (arith, w.1.1.1.0)) ((div-lt_iff_lt-mul some).1 (omega arith)) (λ c. apart (sym c)) own.0 v g.stripe h.stripe g.cleans h.cleans
        (λ y l a b. sym (g.alike y l a) ∙ others y l a b ∙ h.alike y l a) in
        changed (g.alike x below apart ∙ ap (λ (l : List ℕ). cell_at s l x) same ∙ sym (h.alike x below apart))
