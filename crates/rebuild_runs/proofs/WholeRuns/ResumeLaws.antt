-- A run that was open before records had a number of data disks, or of skipped stripes: with as
-- many disks as its width, and none skipped, it is refused, over, and counted as was said of its
-- old record, and goes on from there.
use mathlib.Core.Path.{◌≡◌, refl, ap, ap₂, subst, ◌∙◌}
use mathlib.Core.Bool.{◌&&◌}
use Prim.Native.Nat.{ℕ, ◌-◌, ◌*◌, ◌≤◌}
use native.Mathlib.Omega.{arith}
use lib.Dec.{eqb}
use Rattle.mathematics.specs.Choice.{pick, first_of}
use Rattle.mathematics.proofs.ChoiceLaws.{first_zero}
use Rattle.liberation.proofs.RefusalLaws.{numbers_full}
use Rattle.rebuild_runs.specs.declared.Run.{Run}
use Rattle.rebuild_runs.specs.declared.starts.FullRun.{FullRun}
use Rattle.rebuild_runs.specs.declared.starts.DisksRun.{DisksRun}
use Rattle.rebuild_runs.specs.declared.progress.Progress.{Progress}
use Rattle.rebuild_runs.specs.ProgressSays.{is_over, reads_of, cells_so_far, ProgressSays}
use Rattle.rebuild_runs.specs.Runs.{run_refusal, read_refusal}
use Rattle.rebuild_runs.specs.Starts.{resumed, resumed_disks}
use Rattle.rebuild_runs.proofs.RunRefusals.{skipped_few}
use Rattle.rebuild_runs.specs.WholeRuns.EventSeries.{FullOn, DisksOn, full_refusal, FullAreRead, disks_run_refusal, DisksAreRead}
use Rattle.rebuild_runs.proofs.WholeRuns.MadeLaws.{calls_on}

-- a record with no skipped stripe
module _ (x : Run) (e : x.skipped ≡ 0) where
  below : x.skipped ≤ x.next
  below = omega (arith, e)

  -- its refusals are those without that of skipped stripes
  pub read_as_before : read_refusal x ≡ run_refusal x
  read_as_before = ap (first_of (run_refusal x)) (skipped_few x below) ∙ first_zero (run_refusal x)

  -- and every stripe that is past was read
  cells_as_before : cells_so_far x ≡ x.next * reads_of x
  cells_as_before = let d : x.next - x.skipped ≡ x.next = omega (arith, e) in ap (λ (n : ℕ). n * reads_of x) d

-- so a record x that is y is read as before, by the refusal a that y had
read_old : (y x : Run) (a : ℕ) (g : Progress) → y.skipped ≡ 0 → read_refusal y ≡ a → x ≡ y → ProgressSays x g → (g.answer.refusal ≡ a) × (g.over ≡ (eqb a 0 && is_over y)) × (g.cells ≡ pick (eqb a 0) (y.next * reads_of y) 0)
read_old y x a g s z e k =
    let h : ProgressSays y g = subst (λ (v : Run). ProgressSays v g) e k in
    (h.answer.refusal ∙ z, h.over ∙ ap (λ (n : ℕ). eqb n 0 && is_over y) z, h.cells ∙ ap₂ (λ (n c : ℕ). pick (eqb n 0) c 0) z (cells_as_before y s))

-- refusals of the old records
pub full_refusal_lem : (y : FullRun) → read_refusal (resumed y) ≡ full_refusal y
full_refusal_lem y = read_as_before (resumed y) refl ∙ numbers_full y.width y.size y.disk

pub disks_refusal_lem : (y : DisksRun) → read_refusal (resumed_disks y) ≡ disks_run_refusal y
disks_refusal_lem y = read_as_before (resumed_disks y) refl

pub full_read : FullAreRead
full_read y x g e k = let w = read_old (resumed y) x (full_refusal y) g refl (full_refusal_lem y) e k in record { refusal = w.0; over = w.1; cells = w.2 }

pub disks_read : DisksAreRead
disks_read y x g e k = let w = read_old (resumed_disks y) x (disks_run_refusal y) g refl (disks_refusal_lem y) e k in record { refusal = w.0; over = w.1; cells = w.2 }

-- what its events do is added to what it had
pub full_on : FullOn
full_on y x es e m = calls_on x es (below x (ap (λ (v : Run). v.skipped) e)) m

pub disks_on : DisksOn
disks_on y x es e m = calls_on x es (below x (ap (λ (v : Run). v.skipped) e)) m
