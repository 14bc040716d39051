-- `add_set`: the set's cells on x are listed, then those on y; the lost cell is among them, and their
-- XOR is put there.
use mathlib.Core.Path.{◌≡◌, refl, ap, ◌∙◌}
use mathlib.Core.List.{List, [], ◌++◌}
use Prim.Native.Nat.{ℕ}
use native.Mathlib.Omega.{arith}
use lib.ListN.{length}
use Rattle.liberation.specs.Sets.{lost_in}
use Rattle.liberation.specs.TwoDisksBySums.Sums.{placed, lost_cells}
use Rattle.parity_sets.specs.ParitySets.{kind_of, number_of, cells_of}
use Rattle.stripe_cells.specs.Offsets.{scaled}
use Rattle.stripe_cells.proofs.AppendedLaws.{both_appended, length_appended}
use Rattle.stripe_cells.proofs.SolvedLaws.{from_none}
use Rattle.two_disk_walk.proofs.LostDisks.{lost_pair}
use Rattle.two_disk_walk.proofs.LostLists.{lost_few, add_beside, add_done}
use Rattle.two_disk_walk.proofs.lost_pair.LostPair.add_set.Goals as goal

-- the lost cells of a set, those on disk x and then those on disk y
both : (p s x y : ℕ) (xs a b c : List ℕ) → a ≡ [] → b ≡ a ++ scaled s (placed p x (lost_in p x xs)) → c ≡ b ++ scaled s (placed p y (lost_in p y xs)) → c ≡ scaled s (lost_cells p x y xs)
both p s x y xs a b c e u v = from_none a c (scaled s (lost_cells p x y xs)) e (both_appended (lost_cells p x y xs) a b c s (placed p x (lost_in p x xs)) (placed p y (lost_in p y xs)) refl u v)

pub push_lost-requires-2 : goal.push_lost-requires-2
push_lost-requires-2 c =
    let a = c.args in
    let g = a.self.geometry in
    let x = a.self.x in
    (c.requires.1, a.self.y_is_data, omega (arith, ap length c.clear.ensures, length_appended c.clear.new.self c.push_lost.new.list g.cell_size (placed g.array.width x (lost_in g.array.width x (cells_of g.array.width g.array.disks a.set))) c.push_lost.ensures, lost_few g.array.width g.array.disks (kind_of a.set) (number_of a.set) x c.requires.1 a.self.x_is_data))

pub gather_within-requires : goal.gather_within-requires
gather_within-requires c =
    let a = c.args in
    let g = a.self.geometry in
    let q = c.requires in
    add_beside g.array.width g.array.disks g.cell_size a.self.x a.self.y a.stripe.now c.as_slice.result.now (lost_pair a.self a.stripe.now q.0) (kind_of a.set) (number_of a.set) a.cell.row a.cell.disk q.1 q.2 q.3 c.offset-to.result c.offset-to.ensures (c.as_slice.ensures.0 ∙ both g.array.width g.cell_size a.self.x a.self.y (cells_of g.array.width g.array.disks a.set) _ _ _ c.clear.ensures c.push_lost.ensures c.push_lost-2.ensures)

pub returns : goal.returns
returns c =
    let a = c.args in
    let g = a.self.geometry in
    let q = c.requires in
    add_done g.array.width g.array.disks g.cell_size a.self.x a.self.y a.stripe.now c.as_slice.result.now (lost_pair a.self a.stripe.now q.0) (kind_of a.set) (number_of a.set) a.cell.row a.cell.disk q.1 q.2 q.3 c.offset-to.result c.offset-to.ensures (c.as_slice.ensures.0 ∙ both g.array.width g.cell_size a.self.x a.self.y (cells_of g.array.width g.array.disks a.set) _ _ _ c.clear.ensures c.push_lost.ensures c.push_lost-2.ensures) c.gather_within.new.t c.gather_within.ensures
