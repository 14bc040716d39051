-- Refusals of a report on one array: which test gives them, and what holds where there is none.
use mathlib.Core.Path.{◌≡◌, refl, sym, ap₂}
use mathlib.Core.Bool.{Bool, true, false, not}
use Prim.Native.Nat.{ℕ, ◌+◌, ◌^◌, ◌≤◌, ◌<◌}
use native.Mathlib.Omega.{arith}
use lib.Dec.{leb}
use borrow.Author.Tests.{leb-false}
use Rattle.mathematics.specs.Choice.{pick, first_of}
use Rattle.mathematics.proofs.ChoiceLaws.{first_none, when_none}
use Rattle.liberation.specs.Sets.{array_refusal, disk_refusal}
use Rattle.liberation.proofs.RefusalLaws.{array_of, plan_of_lem}
use Rattle.array_states.specs.Lost.{has_bit, lost_refusal}
use Rattle.array_states.specs.declared.ArrayState.{ArrayState}
use Rattle.array_states.specs.States.{state_refusal, again_refusal, disk_report_refusal, state_report_refusal}

-- a word without a bit past Q
pub lost_of : (k w : ℕ) → lost_refusal k w ≡ 0 → w < 2 ^ (k + 2)
lost_of k w e = leb-false (2 ^ (k + 2)) w (when_none (leb (2 ^ (k + 2)) w) 2 e)

-- an accepted report: the array is in its limits, the disk one of its, lost if it is back, and else
-- not
pub record Reportable (c : ArrayState) (d : ℕ) (back : Bool) : Type 0 where
  pub array : array_refusal c.width c.disks ≡ 0
  pub word : c.lost < 2 ^ (c.disks + 2)
  pub most : c.disks ≤ 31
  pub disk : d ≤ c.disks + 1
  pub bit : has_bit c.lost d ≡ back

-- the flag that is neither the test's nor its opposite's
again_none : (back lost : Bool) → pick back (not lost) lost ≡ false → lost ≡ back
again_none true true e = refl
again_none false false e = refl
again_none true false e = sym e
again_none false true e = e

pub most_disks : (p k : ℕ) → array_refusal p k ≡ 0 → k ≤ 31
most_disks p k e = let a = array_of p k e in omega (arith, a.widest, a.disks)

pub few_disks : (p k d : ℕ) → array_refusal p k ≡ 0 → disk_refusal k d ≡ 0 → (k ≤ 31) × (d ≤ k + 1)
few_disks p k d e f = let q = plan_of_lem p k d (ap₂ first_of e f) in (most_disks p k e, q.1)

pub reportable : (c : ArrayState) (d : ℕ) (back : Bool) → state_report_refusal c d back ≡ 0 → Reportable c d back
reportable c d back e =
    let q = first_none (state_refusal c) (disk_report_refusal c d back) e in
    let a = first_none (array_refusal c.width c.disks) (lost_refusal c.disks c.lost) q.0 in
    let r = first_none (disk_refusal c.disks d) (again_refusal c.lost d back) q.1 in
    let f = few_disks c.width c.disks d a.0 r.0 in
    let t = pick back (not (has_bit c.lost d)) (has_bit c.lost d) in
    record {
      array = a.0;
      word = lost_of c.disks c.lost a.1;
      most = f.0;
      disk = f.1;
      bit = again_none back (has_bit c.lost d) (when_none t 20 r.1);
    }
