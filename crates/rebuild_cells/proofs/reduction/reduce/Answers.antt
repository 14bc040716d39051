-- `reduce`: a row that has the unknown does it; where there is none the reduction stops.
use mathlib.Core.Path.{ap, ◌∙◌}
use Prim.Native.Nat.{ℕ}
use native.Mathlib.Omega.{arith}
use lib.ListN.{length}
use Rattle.mathematics.specs.BitRows.Rows.{pivot, column_done}
use Rattle.rebuild_cells.specs.RowLists.{rows_of}
use Rattle.rebuild_cells.proofs.RowLoops.{reduce_turn, reduce_stop, reduce_end, reduced_less, reduced_whole}
use Rattle.rebuild_cells.proofs.reduction.reduce.Goals as goal

pub returns-in_default : goal.returns-in_default
returns-in_default c =
    let l = c.loop-b in
    let m = c.args.unknowns in
    let n = length c.args.rows.now in
    reduced_less m l.b (rows_of l.rows) _ (reduce_stop m n l.b (length l.rows) (rows_of l.rows) c.loop-b-test.true (c.in_default.ensures.row ∙ ap (λ (x : ℕ). pivot x l.b (rows_of l.rows)) l.auto.rows) (omega (arith, l.auto.rows)) ∙ l.invariant.1) c.loop-b-test.true

pub reduce_column-requires : goal.reduce_column-requires
reduce_column-requires c = (omega arith, omega (arith, c.in-Some.ensures.within), c.in-Some.ensures.within.1)

pub loop-b-preserved : goal.loop-b-preserved
loop-b-preserved c =
    let l = c.loop-b in
    let m = c.args.unknowns in
    let n = length c.args.rows.now in
    let j = c.in-Some.j in
    let w = c.in-Some.ensures.within in (
      omega (arith, w, l.auto.rows),
      reduce_turn m n l.b j (rows_of l.rows) (rows_of c.reduce_column.new.rows) c.loop-b-test.true (c.in-Some.ensures.row ∙ ap (λ (x : ℕ). pivot x l.b (rows_of l.rows)) l.auto.rows) (omega (arith, w, l.auto.rows))
          (c.reduce_column.ensures ∙ ap (λ (x : ℕ). column_done x l.b j (rows_of l.rows)) l.auto.rows)
          ∙ l.invariant.1,
    )

pub returns : goal.returns
returns c =
    let l = c.loop-b in
    let m = c.args.unknowns in
    reduced_whole m l.b (rows_of l.rows) _ (reduce_end m (length c.args.rows.now) l.b (rows_of l.rows) c.loop-b-test.false ∙ l.invariant.1) (omega arith)
