-- What holds of a record that is not refused.
use mathlib.Core.Path.{◌≡◌, ap}
use mathlib.Core.Bool.{Bool, false, ◌||◌, not}
use Prim.Native.Nat.{ℕ, ◌≤◌, ◌<◌}
use lib.Dec.{eqb, leb, ltb}
use borrow.Author.Tests.{eqb-true, leb-false, ltb-false, le-ltb, not-false}
use Rattle.mathematics.specs.Choice.{when}
use Rattle.mathematics.proofs.Flags.{or_false_l, or_false_r}
use Rattle.mathematics.proofs.ChoiceLaws.{first_none, when_none}
use Rattle.rebuild_runs.specs.declared.Run.{Run}
use Rattle.rebuild_runs.specs.Runs.{run_refusal, skipped_refusal, read_refusal, next_refusal, skip_refusal}

-- no more stripes are skipped than are past
pub skipped_few : (x : Run) → x.skipped ≤ x.next → skipped_refusal x ≡ 0
skipped_few x l = ap (λ (b : Bool). when b 10) (le-ltb x.next x.skipped l)

pub few_skipped : (x : Run) → skipped_refusal x ≡ 0 → x.skipped ≤ x.next
few_skipped x e = ltb-false x.next x.skipped (when_none (ltb x.next x.skipped) 9 e)

-- no refusal: it is the next stripe's, and there is one
pub next_stripe : (x : Run) (i : ℕ) → next_refusal x i ≡ 0 → (i ≡ x.next) × (x.next < x.stripes)
next_stripe x i e =
    let a : Bool = leb x.stripes x.next in
    let b : Bool = not (eqb i x.next) in
    let t : (a || b) ≡ false = when_none (a || b) 9 e in
    (eqb-true i x.next (not-false (eqb i x.next) (or_false_r a b t)), leb-false x.stripes x.next (or_false_l a b t))

-- a record that is read without refusal
pub read_passed : (x : Run) → read_refusal x ≡ 0 → (run_refusal x ≡ 0) × (x.skipped ≤ x.next)
read_passed x z = let q = first_none (run_refusal x) (skipped_refusal x) z in (q.0, few_skipped x q.1)

-- and a skip
pub skip_passed : (x : Run) (i : ℕ) → skip_refusal x i ≡ 0 → (x.skipped ≤ x.next) × ((i ≡ x.next) × (x.next < x.stripes))
skip_passed x i z =
    let q = first_none (read_refusal x) (next_refusal x i) z in
    ((read_passed x q.0).1, next_stripe x i q.1)
