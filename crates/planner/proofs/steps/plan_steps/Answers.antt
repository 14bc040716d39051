-- `plan_steps`: a data disk takes its routes' steps, P all row sets, Q all diagonals.
use Rattle.std.proofs.Common.{ℕ, ◌-◌, ap, ◌∙◌, arith, rules}
use native.Mathlib.Nat.{one-mul}
use lib.Dec.{lit<}
use lib.Pow.{shl_exact}
use Rattle.liberation.proofs.OurPlan.{plan_data}
use Rattle.planner.proofs.PlannedLaws.{data_given, ours_given, parity_steps, row_parity_word, diagonal_parity_word}
use Rattle.planner.proofs.steps.plan_steps.Goals as goal

pub returns-then-lost-array : goal.returns-then-lost-array
returns-then-lost-array c =
    let a = c.args in
    let l = c.if-lost-array.true in
    ours_given a.array.width a.array.disks a.lost c.by_routes.result (data_given a.array a.lost _ _ c.our_routes.result c.by_routes.result l c.our_routes.ensures (plan_data a.array.width a.array.disks a.lost l) c.by_routes.ensures) l

pub returns-then-lost-array-2 : goal.returns-then-lost-array-2
returns-then-lost-array-2 c =
    let a = c.args in
    let e = c.if-lost-array-2.true in
    record {
      steps = parity_steps a.array.width a.array.disks a.lost 0 c.all_steps.result (omega (arith, e)) (omega (arith, e)) (c.all_steps.ensures 0 (λ n s h k. search rules));
      routes = row_parity_word a.array.width a.array.disks a.lost e;
    }

pub returns : goal.returns
returns c =
    let a = c.args in
    let p = a.array.width in
    record {
      steps = parity_steps p a.array.disks a.lost 1 c.all_steps-2.result c.if-lost-array.false (omega (arith, c.requires, c.if-lost-array.false, c.if-lost-array-2.false)) (c.all_steps-2.ensures 1 (λ n s h k. search rules));
      routes = ap (λ (x : ℕ). x - 1) (shl_exact 1 p 32 (lit< tt) (omega (arith, a.array.widest)) ∙ one-mul _) ∙ diagonal_parity_word p a.array.disks a.lost c.if-lost-array.false c.if-lost-array-2.false;
    }
