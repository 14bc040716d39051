-- `mend`: the missing cells are listed and mended, unless they are more than the sets.
use Rattle.std.proofs.Common.{rules}
use Prim.Native.Nat.{◌+◌, ◌*◌, ◌≤◌}
use lib.ListN.{length}
use native.Mathlib.Omega.{arith}
use Rattle.rebuild_cells.specs.Theory.Mending.{missing_cells}
use Rattle.rebuild_cells.proofs.Theory.Marked.{missing_below, missing_distinct}
use Rattle.rebuild_cells.proofs.NamedLaws.{too_many}
use Rattle.rebuild_cells.proofs.mends.mend.Goals as goal

pub returns-in_err-cells : goal.returns-in_err-cells
returns-in_err-cells c = too_many c.args.geometry (missing_cells c.args.missing.now) c.args.stripe.now c.from_residual.result (search rules) (search rules)

pub mend_listed-requires : goal.mend_listed-requires
mend_listed-requires c =
    let a = c.args.geometry.array in
    let ms = c.args.missing.now in
    let m = rw c.in_ok-cells.ensures.ok_part at c.of_marks.ensures in
    let few : length (missing_cells ms) ≤ 2 * a.width = rw m.0 at m.1 in
    rw (c.as_slice.ensures.0, m.0) (c.requires.0, record { few = omega (arith, few, a.widest); below = missing_below (a.width * (a.disks + 2)) ms c.requires.1; once = missing_distinct ms }, few)
