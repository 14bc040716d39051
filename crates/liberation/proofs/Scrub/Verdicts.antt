-- The verdict on a stripe: clean; dirty and explained by the suspect and no other disk; or dirty
-- and explained by no one disk.
use mathlib.Core.Path.{◌≡◌, refl, sym, ap₂, ◌∙◌}
use mathlib.Core.Bool.{Bool, true, false}
use mathlib.Core.Logic.{⊎_elim}
use mathlib.Core.List.{List}
use Prim.Native.Nat.{ℕ, ◌+◌, ◌≤◌, ◌<◌}
use native.Mathlib.Omega.{arith}
use lib.Dec.{ltb}
use borrow.Author.Tests.{ltb-true, lt-ltb}
use Rattle.mathematics.specs.Choice.{pick}
use Rattle.mathematics.proofs.Flags.{flag, clash}
use Rattle.liberation.specs.Sets.{is_width}
use Rattle.liberation.specs.Stripes.Stripes.{is_stripe, clean}
use Rattle.liberation.specs.Scrub.Survivors.{with_rebuilt, fits, suspect, verdict}
use Rattle.liberation.specs.Scrub.Explained.{Explains, OneDisk, NoDisk, VerdictMeans}
use Rattle.mathematics.proofs.FirstLaws.{first_passes, first_least}
use Rattle.liberation.proofs.Scrub.Explaining.{fits_explains, explains_fits, explains_once}

-- what the two flags give, and what each verdict says of them
abbrev verdict_by : Bool → Bool → ℕ
verdict_by c b = pick c 0 (pick b 1 2)

by_zero : (c b : Bool) → verdict_by c b ≡ 0 → c ≡ true
by_zero true b e = refl
by_zero false true e = absurd (omega arith)
by_zero false false e = absurd (omega arith)

by_one : (c b : Bool) → verdict_by c b ≡ 1 → (c ≡ false) × (b ≡ true)
by_one true b e = absurd (omega arith)
by_one false true e = (refl, refl)
by_one false false e = absurd (omega arith)

by_two : (c b : Bool) → verdict_by c b ≡ 2 → (c ≡ false) × (b ≡ false)
by_two true b e = absurd (omega arith)
by_two false true e = absurd (omega arith)
by_two false false e = (refl, refl)

by_few : (c b : Bool) → verdict_by c b < 3
by_few true b = omega arith
by_few false true = omega arith
by_few false false = omega arith

-- the suspect
module _ (p k s : ℕ) (t : List ℕ) where
  pub suspect_fits : suspect p k s t < k + 2 → fits p k s (suspect p k s t) t ≡ true
  unfolding suspect
  suspect_fits l = first_passes (k + 2) 0 (λ d. fits p k s d t) (omega arith)

  pub suspect_least : (d : ℕ) → d < k + 2 → fits p k s d t ≡ true → suspect p k s t ≤ d
  unfolding suspect
  suspect_least d l h = first_least (k + 2) 0 d (λ c. fits p k s c t) (omega arith) (omega arith) h

  verdict_is : verdict p k s t ≡ verdict_by (clean p k s t) (ltb (suspect p k s t) (k + 2))
  unfolding verdict
  verdict_is = refl

module _ (p k s : ℕ) (width : is_width p ≡ true) (most : k ≤ p) (t : List ℕ) (stripe : is_stripe p k s t ≡ true) where
  -- a dirty stripe whose suspect is a disk
  suspect_one : clean p k s t ≡ false → suspect p k s t < k + 2 → OneDisk p k s (suspect p k s t) t
  suspect_one dirty l =
      let x = suspect p k s t in
      let e : Explains p k s x t (with_rebuilt p k s x t) = fits_explains p k s x width most l t stripe (suspect_fits p k s t l) in
      record { below = l; dirty = dirty; explained = (with_rebuilt p k s x t, e); alone = λ c u m q. explains_once p k s c x width most m l t stripe dirty u (with_rebuilt p k s x t) q e }

  -- where some disk explains t, the suspect is one
  suspect_below : (d : ℕ) (u : List ℕ) → d < k + 2 → Explains p k s d t u → suspect p k s t < k + 2
  suspect_below d u l e = omega (arith, suspect_least p k s t d l (explains_fits p k s d width most l t stripe u e))

  -- no disk fits where the suspect is none
  suspect_none : ltb (suspect p k s t) (k + 2) ≡ false → (d : ℕ) (u : List ℕ) → d < k + 2 → Explains p k s d t u → ⊥
  suspect_none h d u l e = clash (ltb (suspect p k s t) (k + 2)) (lt-ltb (suspect p k s t) (k + 2) (suspect_below d u l e)) h

  verdict_with : (c b : Bool) → clean p k s t ≡ c → ltb (suspect p k s t) (k + 2) ≡ b → verdict p k s t ≡ verdict_by c b
  verdict_with c b e q = verdict_is p k s t ∙ ap₂ verdict_by e q

  one_given : (d : ℕ) (u : List ℕ) → d < k + 2 → clean p k s t ≡ false → Explains p k s d t u → (verdict p k s t ≡ 1) × (suspect p k s t ≡ d)
  one_given d u m dirty e =
      let l : suspect p k s t < k + 2 = suspect_below d u m e in
      (verdict_with false true dirty (lt-ltb (suspect p k s t) (k + 2) l), sym ((suspect_one dirty l).alone d u m e))

  none_given : NoDisk p k s t → verdict p k s t ≡ 2
  none_given g = verdict_with false false g.dirty (⊎_elim (λ h. absurd (found (ltb-true (suspect p k s t) (k + 2) h))) (λ h. h) (flag (ltb (suspect p k s t) (k + 2))))
    where
      found : suspect p k s t < k + 2 → ⊥
      found l = let x = (suspect_one g.dirty l).explained in g.none (suspect p k s t) x.0 l x.1

  pub verdict_means : VerdictMeans p k s t
  verdict_means =
      record {
        says_clean = λ e. by_zero (clean p k s t) (ltb (suspect p k s t) (k + 2)) (sym (verdict_is p k s t) ∙ e);
        says_one = λ e. let w = by_one (clean p k s t) (ltb (suspect p k s t) (k + 2)) (sym (verdict_is p k s t) ∙ e) in suspect_one w.0 (ltb-true (suspect p k s t) (k + 2) w.1);
        says_none = λ e. let w = by_two (clean p k s t) (ltb (suspect p k s t) (k + 2)) (sym (verdict_is p k s t) ∙ e) in record { dirty = w.0; none = suspect_none w.1 };
        if_clean = λ e. verdict_with true (ltb (suspect p k s t) (k + 2)) e refl;
        if_one = one_given;
        if_none = none_given;
        few = rw verdict_is (by_few (clean p k s t) (ltb (suspect p k s t) (k + 2)));
      }
