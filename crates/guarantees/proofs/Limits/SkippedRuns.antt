-- Ask 8 of document 02: "A record whose skipped is above next gives refusal 10 in any call; a skip
-- gives it also where a step would."
use mathlib.Core.Path.{◌≡◌, refl, subst}
use mathlib.Core.List.{List}
use Prim.Native.Nat.{ℕ, ◌+◌, ◌*◌, ◌≤◌, ◌<◌}
use native.Mathlib.Omega.{arith}
use lib.ListN.{length}
use Rattle.refusals.specs.declared.answer.Answer.{Answer}
use Rattle.rebuild_runs.specs.declared.Run.{Run}
use Rattle.rebuild_runs.specs.Runs.{SkipSays}
use Rattle.rebuild_runs.specs.StepSays.{StepSays}
use Rattle.rebuild_runs.specs.declared.progress.Progress.{Progress}
use Rattle.rebuild_runs.specs.ProgressSays.{ProgressSays}
use Rattle.billing.specs.declared.Bill.{Bill}
use Rattle.billing.specs.Bills.{RunBillSays}
use Rattle.guarantees.specs.Limits.Limits.{none, ◌then◌, Within, Decides}
use Rattle.guarantees.specs.Limits.Calls.{record_numbers, skipped, next, skip_stripe, rebuild_one, rates}
use Rattle.guarantees.proofs.Limits.LimitLaws.{and_then, holds, first_outside, decides_once, comes_after}
use Rattle.guarantees.proofs.Limits.Demand1.{demand1}

-- every call on a record x, whose own numbers are within their limits
pub record Tens (x : Run) : Type 0 where
  -- "A record whose skipped is above next gives refusal 10 in any call": a step on slices of the
  -- lengths required
  pub read : x.next < x.skipped → (g : Progress) → ProgressSays x g → g.answer.refusal ≡ 10
  pub bill : x.next < x.skipped → (a b c : ℕ) (y : Bill) (g : Progress) → RunBillSays x a b c y → ProgressSays x g → y.answer.refusal ≡ 10
  pub skip : x.next < x.skipped → (x' : Run) (i : ℕ) (r : Answer) → SkipSays x x' i r → r.refusal ≡ 10
  pub step : x.next < x.skipped → (x' : Run) (i : ℕ) (t o o' : List ℕ) (r : Answer) → StepSays x x' i t o o' r → length t ≡ (x.shape.disks + 2) * (x.shape.width * x.shape.cell_size) → length o ≡ x.shape.width * x.shape.cell_size → r.refusal ≡ 10
  -- "a skip gives it also where a step would"
  pub also : (x' x'' : Run) (i : ℕ) (t o o' : List ℕ) (r q : Answer) → StepSays x x' i t o o' r → SkipSays x x'' i q → r.refusal ≡ 10 → q.refusal ≡ 10

module _ (x : Run) (w : Within (record_numbers x)) where
  above : x.next < x.skipped → x.skipped ≤ x.next → ⊥
  above h l = omega arith

  pub tens : Tens x
  tens =
      record {
        read = λ h g d. (first_outside (record_numbers x) none (demand1.run_progress x g d).decides w (above h)).number_is;
        bill = λ h a b c y g d e. (first_outside (record_numbers x) (rates a b c) (demand1.bill_run_lem x a b c y g d e).decides w (above h)).number_is;
        skip = λ h x' i r d. (first_outside (record_numbers x) (next x i) (demand1.skip_stripe_lem x x' i r d).decides w (above h)).number_is;
        step = λ h x' i t o o' r d l m.
            (first_outside (rebuild_one x.shape.width x.shape.disks x.shape.cell_size x.lost t o) (next x i) (demand1.step_run_lem x x' i t o o' r d).decides
            (w.0, (w.1.0, (w.1.1.0, (w.1.1.1.0, (l, (m, tt)))))) (above h)).number_is;
        also = λ x' x'' i t o o' r q d e z. go x' x'' i t o o' r q d e z;
      }
    where
      go : (x' x'' : Run) (i : ℕ) (t o o' : List ℕ) (r q : Answer) → StepSays x x' i t o o' r → SkipSays x x'' i q → r.refusal ≡ 10 → q.refusal ≡ 10
      go x' x'' i t o o' r q d e z =
          let p = x.shape.width in
          let k = x.shape.disks in
          let s = x.shape.cell_size in
          let c : Decides (rebuild_one p k s x.lost t o then (skipped x then next x i)) 10 r.place = subst (λ (n : ℕ). Decides (rebuild_one p k s x.lost t o then (skipped x then next x i)) n r.place) z (demand1.step_run_lem x x' i t o o' r d).decides in
          let last = (comes_after (rebuild_one p k s x.lost t o) (skipped x then next x i) refl c).1 in
          let own : Decides (skip_stripe x i) 10 r.place = and_then (holds (record_numbers x) w) (λ v. last) in
          (decides_once (demand1.skip_stripe_lem x x'' i q e).decides own).0
