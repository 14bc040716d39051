-- `rebuild_cell`: the surviving cells are gathered into the row's part of the column, then the
-- other lost cell, if there is one, is added by a gather that has the row's cell too. Both together
-- are the step.
use mathlib.Core.Path.{◌≡◌, refl, ap₂, ◌∙◌}
use mathlib.Core.List.{List, [], ◌++◌}
use Prim.Native.Nat.{ℕ}
use native.Mathlib.Omega.{arith}
use Rattle.parity_sets.specs.ParitySets.{kind_of, number_of, cells_of}
use Rattle.stripe_cells.specs.Offsets.{scaled}
use Rattle.stripe_cells.specs.OrdinaryCells.{survivors}
use Rattle.stripe_cells.proofs.SolvedLaws.{from_none}
use Rattle.rebuild_one.proofs.OneStep.{sources_fit, step_alone, pair_beside, step_added}
use Rattle.rebuild_one.proofs.lost_disk.LostDisk.rebuild_cell.Goals as goal

-- the survivors of a set, listed alone
listed : (p s f l h : ℕ) (xs a b v : List ℕ) → a ≡ [] → b ≡ a ++ scaled s (survivors p l h xs) → v ≡ b → l ≡ f → h ≡ f → v ≡ scaled s (survivors p f f xs)
listed p s f l h xs a b v e u q el eh = q ∙ from_none a b (scaled s (survivors p l h xs)) e u ∙ ap₂ (λ (i j : ℕ). scaled s (survivors p i j xs)) el eh

pub gather-requires : goal.gather-requires
gather-requires c =
    let a = c.args in
    let g = a.self.geometry in
    let q = c.requires in
    sources_fit g.array.width g.array.disks g.cell_size a.self.disk a.row (kind_of a.set) (number_of a.set) a.stripe.now a.column.now q.long.0 a.self.is_disk q.long.1 q.cell.0 q.cell.1 (omega (arith, g.array.within, g.array.widest)) c.as_slice.result.now
    (listed g.array.width g.cell_size a.self.disk c.one.result.low c.one.result.high (cells_of g.array.width g.array.disks a.set) _ _ _ c.clear.ensures c.push_surviving.ensures c.as_slice.ensures.0 c.one.ensures.0 c.one.ensures.1)

pub gather_within-requires : goal.gather_within-requires
gather_within-requires c =
    let a = c.args in
    let g = a.self.geometry in
    let q = c.requires in
    pair_beside g.array.width g.array.disks g.cell_size a.self.disk a.row (kind_of a.set) (number_of a.set) a.stripe.now a.column.now q.long.0 a.self.is_disk q.long.1 q.cell.0 q.cell.1 (omega (arith, g.array.within, g.array.widest)) c.as_slice.result.now
    (listed g.array.width g.cell_size a.self.disk c.one.result.low c.one.result.high (cells_of g.array.width g.array.disks a.set) _ _ _ c.clear.ensures c.push_surviving.ensures c.as_slice.ensures.0 c.one.ensures.0 c.one.ensures.1)
    c.gather.new.dst c.gather.ensures c.in-Some.other c.in-Some.ensures.0 c.in-Some.ensures.1 _ refl

pub returns-in-Some : goal.returns-in-Some
returns-in-Some c =
    let a = c.args in
    let g = a.self.geometry in
    let q = c.requires in
    step_added g.array.width g.array.disks g.cell_size a.self.disk a.row (kind_of a.set) (number_of a.set) a.stripe.now a.column.now q.long.0 a.self.is_disk q.long.1 q.cell.0 q.cell.1 (omega (arith, g.array.within, g.array.widest)) c.as_slice.result.now
    (listed g.array.width g.cell_size a.self.disk c.one.result.low c.one.result.high (cells_of g.array.width g.array.disks a.set) _ _ _ c.clear.ensures c.push_surviving.ensures c.as_slice.ensures.0 c.one.ensures.0 c.one.ensures.1)
    c.gather.new.dst c.gather.ensures c.in-Some.other c.in-Some.ensures.0 c.in-Some.ensures.1 _ refl c.gather_within.new.t c.gather_within.ensures

pub returns-in_default : goal.returns-in_default
returns-in_default c =
    let a = c.args in
    let g = a.self.geometry in
    let q = c.requires in
    step_alone g.array.width g.array.disks g.cell_size a.self.disk a.row (kind_of a.set) (number_of a.set) a.stripe.now a.column.now q.long.0 a.self.is_disk q.long.1 q.cell.0 q.cell.1 (omega (arith, g.array.within, g.array.widest)) c.as_slice.result.now
    (listed g.array.width g.cell_size a.self.disk c.one.result.low c.one.result.high (cells_of g.array.width g.array.disks a.set) _ _ _ c.clear.ensures c.push_surviving.ensures c.as_slice.ensures.0 c.one.ensures.0 c.one.ensures.1)
    c.gather.new.dst c.gather.ensures c.in_default.ensures
