-- `follow`: each turn does the next step of the plan. The invariant: the steps still to come, on
-- the stripe with the column as it stands, give what all steps give.
use mathlib.Core.Path.{ap₂, ◌∙◌}
use mathlib.Core.List.{List}
use Prim.Native.Nat.{ℕ}
use native.Mathlib.Omega.{arith}
use Rattle.mathematics.specs.Lists.{is_in}
use Rattle.liberation.specs.Sets.{place, lost_in}
use Rattle.liberation.specs.Stripes.Stripes.{solved, with_column}
use Rattle.planner.specs.StepRecords.{held}
use Rattle.planner.proofs.HeldLaws.{step_at, held_at, held_passed}
use Rattle.xor.proofs.SourceLaws.{bytes_all}
use Rattle.rebuild_one.proofs.FollowLaws.{stepping_start, stepping_turn, stepping_end}
use Rattle.rebuild_one.proofs.StepSets.{step_number, step_cells}
use Rattle.rebuild_one.proofs.lost_disk.LostDisk.follow.Goals as goal

pub loop-i-init : goal.loop-i-init
loop-i-init c = stepping_start _ _ _ _ _ _ _ c.requires.long.1

pub rebuild_cell-requires : goal.rebuild_cell-requires
rebuild_cell-requires c =
    let s = c.args.self in
    let a = s.geometry.array in
    let passed = (held_passed a.width a.disks s.disk c.loop-i.i c.args.steps c.requires.plan c.loop-i-test.true).1 in
    let f = c.of_step-set in
    record {
      long = (c.requires.long.0, c.loop-i.invariant.long);
      cell = (omega (arith, step_number f.result _ _ f.ensures, passed.number_below), omega (arith, c.from-row.ensures, passed.row_below), ap₂ (λ (r : ℕ) (xs : List ℕ). is_in r (lost_in a.width s.disk xs)) c.from-row.ensures (step_cells f.result a.width a.disks _ _ f.ensures) ∙ passed.lost);
    }

pub loop-i-preserved : goal.loop-i-preserved
loop-i-preserved c =
    let m = c.rebuild_cell in
    let l = c.loop-i in
    let a = c.args in
    let s = a.self in
    let g = s.geometry in
    let p = g.array.width in
    stepping_turn p g.array.disks g.cell_size s.disk (held p a.steps) a.stripe.now a.column.now l.column m.new.column l.i (step_at a.steps l.i) (held_at p l.i a.steps c.loop-i-test.true) c.loop-i-test.true m.auto.column
    (m.ensures ∙ ap₂ (λ (r : ℕ) (xs : List ℕ). solved g.cell_size (place p r s.disk) xs (with_column p g.cell_size s.disk l.column a.stripe.now)) c.from-row.ensures (step_cells c.of_step-set.result p g.array.disks _ _ c.of_step-set.ensures)) l.invariant

pub returns : goal.returns
returns c =
    let l = c.loop-i in
    let a = c.args in
    let g = a.self.geometry in
    stepping_end g.array.width g.array.disks g.cell_size a.self.disk (held g.array.width a.steps) c.requires.plan g.array.some a.self.is_disk a.stripe.now a.column.now l.column l.i (omega arith) c.requires.long.0 c.requires.long.1 (bytes_all a.stripe.now c.shared_slice_known-1.given) (bytes_all a.column.now c.slice_known-1.given) l.invariant
