-- Reading a record that is not refused: our plan's count, and few cells enough.
use mathlib.Core.Path.{◌≡◌, ap, ◌∙◌}
use Prim.Native.Nat.{ℕ, ◌-◌, ◌*◌, ◌≤◌, ◌<◌, ◌^◌}
use native.Mathlib.Nat.{mul-le-mul}
use native.Mathlib.Omega.{arith}
use lib.Dec.{eqb}
use Rattle.mathematics.specs.Choice.{pick}
use Rattle.liberation.proofs.RefusalLaws.{numbers_of_lem, numbers_plan}
use Rattle.liberation.proofs.RecordLaws.{plan_reads_most}
use Rattle.liberation.proofs.MarkLists.{cells_most as array-cells}
use Rattle.planner.specs.declared.Plan.{Plan}
use Rattle.planner.specs.PlanSays.{PlanSays}
use Rattle.rebuild_runs.specs.declared.Run.{Run}
use Rattle.rebuild_runs.specs.Runs.{run_refusal}
use Rattle.rebuild_runs.specs.ProgressSays.{reads_of, cells_so_far}

-- our plan's count, where the record's numbers are accepted
pub reads_are : (x : Run) (r : Plan) → run_refusal x ≡ 0 → PlanSays x.shape.width x.shape.disks x.lost r → r.reads ≡ reads_of x
reads_are x r z k = k.reads ∙ ap (λ (n : ℕ). pick (eqb n 0) (reads_of x) 0) (numbers_plan x.shape.width x.shape.disks x.shape.cell_size x.lost z)

-- no plan reads more cells than there are, so a run has read few
pub cells_most : (x : Run) → run_refusal x ≡ 0 → x.next < 2 ^ 32 → cells_so_far x ≤ 4294967295 * 1023
cells_most x z n =
    let q = numbers_of_lem x.shape.width x.shape.disks x.shape.cell_size x.lost z in
    let c : reads_of x ≤ 1023 = omega (arith, plan_reads_most x.shape.width x.shape.disks x.lost q.0.width q.0.disks q.3, array-cells x.shape.width x.shape.disks q.0.widest q.0.disks) in
    let m : x.next - x.skipped ≤ 4294967295 = omega arith in
    mul-le-mul m c

-- a product of two 32-bit numbers has at most 64 bits
pub product_fits : (a b : ℕ) → a < 2 ^ 32 → b < 2 ^ 32 → a * b < 2 ^ 64
product_fits a b h k =
    let u : a ≤ 4294967295 = omega arith in
    let v : b ≤ 4294967295 = omega arith in
    omega (arith, mul-le-mul u v)
