-- Ask 2 of document 02, said of the scrub: whatever it returns, as long as it keeps its promise. t
-- is the lent stripe; that it has the length required and is bytes comes with the answer.
use mathlib.Core.Path.{◌≡◌, sym, ap, subst, ◌∙◌}
use mathlib.Core.Bool.{Bool, true, false, ◌&&◌}
use mathlib.Core.List.{List}
use Prim.Native.Nat.{ℕ, ◌+◌, ◌*◌, ◌≤◌, ◌<◌}
use native.Mathlib.Omega.{arith}
use lib.Dec.{eqb}
use lib.ListN.{length}
use borrow.Author.Tests.{ne_eqb}
use Rattle.mathematics.specs.Choice.{pick}
use Rattle.mathematics.specs.Xor.{all_bytes}
use Rattle.liberation.specs.Sets.{is_width}
use Rattle.liberation.proofs.PartPlans.{plan_accepted}
use Rattle.liberation.specs.Stripes.Stripes.{with_column, is_stripe, clean, rebuilt}
use Rattle.liberation.proofs.Stripes.Rebuilding.{rebuilt_long, rebuilt_bytes}
use Rattle.liberation.specs.Scrub.Survivors.{fits, suspect, verdict}
use Rattle.liberation.specs.Scrub.Explained.{Explains, NoDisk}
use Rattle.liberation.proofs.Scrub.Explaining.{column_explains, explains_fits, explains_once}
use Rattle.liberation.proofs.Scrub.Verdicts.{verdict_means}
use Rattle.refusals.specs.StripeSays.{stripe_refusal}
use Rattle.refusals.proofs.StripeRefusals.{refusal_none}
use Rattle.scrub.specs.declared.Scrubbed.{Scrubbed}
use Rattle.scrub.specs.ScrubSays.{ScrubSays}
use Rattle.guarantees.proofs.Stripes.{is_stripe_lem}

-- Some column of p × s bytes in the place of disk d makes t clean.
pub record Mends (p k s d : ℕ) (t : List ℕ) : Type 0 where
  pub column : List ℕ
  pub long : length column ≡ p * s
  pub bytes : all_bytes column ≡ true
  pub cleans : clean p k s (with_column p s d column t) ≡ true

-- What an accepted scrub of t answers. Disks are numbered to k + 1, Q: no absent disk has a number.
pub record Scrubs (p k s : ℕ) (t : List ℕ) (r : Scrubbed) : Type 0 where
  -- clean exactly for a clean stripe
  pub says_clean : r.verdict ≡ 0 → clean p k s t ≡ true
  pub if_clean : clean p k s t ≡ true → r.verdict ≡ 0
  -- a disk exactly where the stripe is not clean and that disk's cells alone can make it so
  pub says_one : r.verdict ≡ 1 → (r.disk < k + 2) × (clean p k s t ≡ false) × Mends p k s r.disk t
  pub if_one : (d : ℕ) → d < k + 2 → clean p k s t ≡ false → Mends p k s d t → (r.verdict ≡ 1) × (r.disk ≡ d)
  -- at most one disk is such
  pub one : (a b : ℕ) → a < k + 2 → b < k + 2 → clean p k s t ≡ false → Mends p k s a t → Mends p k s b t → a ≡ b
  -- more than one exactly where neither holds
  pub says_more : r.verdict ≡ 2 → (clean p k s t ≡ false) × ((d : ℕ) → d < k + 2 → Mends p k s d t → ⊥)
  pub if_more : clean p k s t ≡ false → ((d : ℕ) → d < k + 2 → Mends p k s d t → ⊥) → r.verdict ≡ 2
  -- there is no other verdict, and without a disk to name the disk is 0
  pub few : r.verdict < 3
  pub unnamed : (r.verdict ≡ 1 → ⊥) → r.disk ≡ 0

module _ (p k s : ℕ) (width : is_width p ≡ true) (most : k ≤ p) (t : List ℕ) (ok : is_stripe p k s t ≡ true) where
  -- by a column, or by a stripe that is t off the disk: the same
  mends_explains : (d : ℕ) → d < k + 2 → (m : Mends p k s d t) → Explains p k s d t (with_column p s d m.column t)
  mends_explains d l m = column_explains p k s d l t ok m.column m.long m.bytes m.cleans

  explains_mends : (d : ℕ) → d < k + 2 → (u : List ℕ) → Explains p k s d t u → Mends p k s d t
  unfolding fits
  explains_mends d l u e =
      let plan = plan_accepted p k d width most (omega arith) in
      record { column = rebuilt p k s d t; long = rebuilt_long p k s d plan l t ok; bytes = rebuilt_bytes p k s d plan l t ok; cleans = explains_fits p k s d width most l t ok u e }

  none_mends : NoDisk p k s t → (d : ℕ) → d < k + 2 → Mends p k s d t → ⊥
  none_mends g d l m = g.none d (with_column p s d m.column t) l (mends_explains d l m)

  module _ (r : Scrubbed) (v : r.verdict ≡ verdict p k s t) (x : r.disk ≡ pick (eqb (verdict p k s t) 1) (suspect p k s t) 0) where
    named : r.verdict ≡ 1 → r.disk ≡ suspect p k s t
    named e = x ∙ ap (λ (n : ℕ). pick (eqb n 1) (suspect p k s t) 0) (sym v ∙ e)

    scrubs_so : Scrubs p k s t r
    scrubs_so =
        let w = verdict_means p k s width most t ok in
        record {
          says_clean = λ e. w.says_clean (sym v ∙ e);
          if_clean = λ e. v ∙ w.if_clean e;
          says_one = λ e.
              let o = w.says_one (sym v ∙ e) in
              let q = named e in
              let m : Mends p k s (suspect p k s t) t = explains_mends (suspect p k s t) o.below o.explained.0 o.explained.1 in
              (omega (arith, q, o.below), o.dirty, subst (λ (d : ℕ). Mends p k s d t) (sym q) m);
          if_one = λ d l c m. let o = w.if_one d (with_column p s d m.column t) l c (mends_explains d l m) in (v ∙ o.0, named (v ∙ o.0) ∙ o.1);
          one = λ a b la lb c ma mb. explains_once p k s a b width most la lb t ok c (with_column p s a ma.column t) (with_column p s b mb.column t) (mends_explains a la ma) (mends_explains b lb mb);
          says_more = λ e. let g = w.says_none (sym v ∙ e) in (g.dirty, none_mends g);
          if_more = λ c n. v ∙ w.if_none (record { dirty = c; none = λ d u l e. n d l (explains_mends d l u e) });
          few = omega (arith, v, w.few);
          unnamed = λ n. x ∙ ap (λ (b : Bool). pick b (suspect p k s t) 0) (ne_eqb (verdict p k s t) 1 (λ e. n (v ∙ e)));
        }

pub scrubs : (p k s : ℕ) (t : List ℕ) (r : Scrubbed) → ScrubSays p k s t r → r.answer.refusal ≡ 0 → Scrubs p k s t r
scrubs p k s t r d z =
    let e : stripe_refusal p k s t ≡ 0 = sym d.answer.refusal ∙ z in
    let a = refusal_none p k s t e in
    scrubs_so p k s a.array.width a.array.disks t (is_stripe_lem p k s t a.long d.bytes) r
    (d.verdict ∙ ap (λ (n : ℕ). pick (eqb n 0) (verdict p k s t) 0) e)
    (d.disk ∙ ap (λ (n : ℕ). pick (eqb n 0 && eqb (verdict p k s t) 1) (suspect p k s t) 0) e)
