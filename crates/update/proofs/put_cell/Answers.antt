-- `put_cell`: the new bytes are added to the cell, which then holds the change, the cell to its
-- parity cells, and the new bytes are copied in.
use mathlib.Core.Path.{ap, ◌∙◌}
use mathlib.Core.List.{List}
use Prim.Native.Nat.{ℕ, ◌+◌, ◌-◌, ◌*◌}
use native.Mathlib.Omega.{arith}
use lib.ListN.{length}
use borrow.Rule.Slice.PartMut.{put_mid}
use Rattle.mathematics.specs.Xor.{xor_l}
use Rattle.liberation.specs.Sets.{place}
use Rattle.liberation.specs.Stripes.Stripes.{cell_at, with_cell}
use Rattle.xor.specs.Parts.{part}
use Rattle.xor.proofs.PartLaws.{put_part}
use Rattle.xor.proofs.SourceLaws.{bytes_all}
use Rattle.update.proofs.CellPlaces.{data_cell, own_fits}
use Rattle.update.proofs.PutLaws.{change_put, cell_put}
use Rattle.update.proofs.put_cell.Goals as goal

pub slice_bounds-add_one-end : goal.slice_bounds-add_one-end
slice_bounds-add_one-end c =
    let x = c.args.target in
    let a = x.geometry.array in
    let d = data_cell x c.args.stripe.now c.requires.0 in
    omega (arith, rw (← c.place.ensures.0) at (own_fits a.width a.disks x.geometry.cell_size x.row x.disk c.args.stripe.now d))

pub returns : goal.returns
returns c =
    let x = c.args.target in
    let a = x.geometry.array in
    let s = x.geometry.cell_size in
    let t = c.args.stripe.now in
    let y = place a.width x.row x.disk in
    let d = data_cell x t c.requires.0 in
    let e = put_part (λ l. xor_l l (part (length l) 0 c.args.cell.now)) (c.place.result * s) s t c.add_one.new.dst c.add_one.ensures in
    let f = put_part (λ l. c.args.cell.now) (c.place.result * s) s c.add_to_parity.new.stripe c.copy.new.dst c.copy.ensures in
    cell_put a.width a.disks s x.row x.disk c.args.cell.now t d c.requires.1 (put_mid (c.place.result * s) (c.place.result * s + s - c.place.result * s) t c.add_one.new.dst) c.add_to_parity.new.stripe _ (bytes_all t c.slice_known-1.given)
    (e ∙ ap (λ (n : ℕ). with_cell s n (xor_l (cell_at s t n) (part (length (cell_at s t n)) 0 c.args.cell.now)) t) c.place.ensures.0 ∙ ap (λ (l : List ℕ). with_cell s y l t) (change_put a.width a.disks s x.row x.disk c.args.cell.now t d c.requires.1))
    c.add_to_parity.ensures
    (f ∙ ap (λ (n : ℕ). with_cell s n c.args.cell.now c.add_to_parity.new.stripe) c.place.ensures.0)
