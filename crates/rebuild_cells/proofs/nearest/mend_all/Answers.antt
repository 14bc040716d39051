-- `mend_all`: the words that are changed start as the rows' own.
use native.Mathlib.Omega.{arith}
use mathlib.Core.Path.{◌∙◌}
use lib.ListN.{length, length-map, length-set}
use Rattle.rebuild_cells.specs.declared.reduction.Row.{Row}
use Rattle.rebuild_cells.specs.RowLists.{sums_of}
use Rattle.rebuild_cells.proofs.NearestLoops.{copied_turn, copied_end}
use Rattle.rebuild_cells.proofs.RowListLaws.{sum_at}
use Rattle.rebuild_cells.proofs.nearest.mend_all.Goals as goal

pub loop-b-preserved : goal.loop-b-preserved
loop-b-preserved c =
    let l = c.loop-b in
    let rs = c.args.rows.now in
    let r = c.requires.1 in
    let n = length-map rs (λ (x : Row). x.sum) in
    (length-set l.near l.b _ ∙ l.invariant.0, copied_turn (sums_of rs) l.near l.b _ (omega (arith, r.listed.few, l.invariant.0)) (sum_at rs l.b (omega (arith, n, r.long, r.room))) l.invariant.1)

pub mend_nearest-requires : goal.mend_nearest-requires
mend_nearest-requires c =
    let l = c.loop-b in
    let r = c.requires.1 in
    (c.requires.0, r, copied_end (length c.args.cells.now) (sums_of c.args.rows.now) l.near (omega (arith, r.long, r.room)) (omega (arith, r.listed.few, l.invariant.0)) (λ x h. l.invariant.1 x (omega arith)))
