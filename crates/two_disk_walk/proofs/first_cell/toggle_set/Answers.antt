-- `toggle_set`: the surviving cells of the set are listed by their places, and each has a mark.
use mathlib.Core.Path.{ap, ◌∙◌}
use mathlib.Core.List.{List}
use Prim.Native.Nat.{ℕ}
use Rattle.parity_sets.specs.ParitySets.{kind_of, number_of, cells_of}
use Rattle.stripe_cells.specs.Toggled.{toggled_all}
use Rattle.stripe_cells.proofs.SolvedLaws.{from_none}
use Rattle.two_disk_walk.proofs.ToggleLaws.{set_places, places_marked}
use Rattle.two_disk_walk.proofs.first_cell.toggle_set.Goals as goal

pub toggle_all-requires : goal.toggle_all-requires
toggle_all-requires c =
    let a = c.args in
    let e = c.as_slice.ensures.0 ∙ set_places _ _ _ (from_none _ _ _ c.clear.ensures c.push_surviving.ensures) (c.two.ensures a.array.width (cells_of a.array.width a.array.disks a.set)) in
    places_marked a.array.width a.array.disks a.x (kind_of a.set) (number_of a.set) c.as_slice.result.now a.marks.now c.requires.0 e c.requires.2

pub returns : goal.returns
returns c =
    let a = c.args in
    c.toggle_all.ensures ∙ ap (λ (l : List ℕ). toggled_all l a.marks.now) (c.as_slice.ensures.0 ∙ set_places _ _ _ (from_none _ _ _ c.clear.ensures c.push_surviving.ensures) (c.two.ensures a.array.width (cells_of a.array.width a.array.disks a.set)))
