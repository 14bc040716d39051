-- `pivot_row`: the search goes on from the row that is looked at.
use mathlib.Core.Path.{◌≡◌, ap, ◌∙◌}
use Prim.Native.Nat.{ℕ}
use native.Mathlib.Omega.{arith}
use lib.ListN.{length}
use Rattle.mathematics.specs.BitRows.Parity.{bit}
use Rattle.mathematics.specs.BitRows.Rows.{has}
use Rattle.rebuild_cells.specs.RowLists.{rows_of}
use Rattle.rebuild_cells.proofs.RowListLaws.{word_at}
use Rattle.rebuild_cells.proofs.RowLoops.{seek_here, seek_turn, seek_end}
use Rattle.rebuild_cells.proofs.reduction.pivot_row.Goals as goal

pub returns-then-has_bit-clause-row : goal.returns-then-has_bit-clause-row
returns-then-has_bit-clause-row c =
    let l = c.loop-j in
    let rs = c.args.rows.now in
    seek_here (length rs) l.j (λ i. has (rows_of rs) i c.args.b) c.has_bit.result (omega arith) (c.has_bit.ensures ∙ ap (λ (w : ℕ). bit w c.args.b) (word_at rs l.j (omega arith))) c.if-has_bit.true ∙ l.invariant

pub loop-j-preserved : goal.loop-j-preserved
loop-j-preserved c =
    let l = c.loop-j in
    let rs = c.args.rows.now in
    seek_turn (length rs) l.j (λ i. has (rows_of rs) i c.args.b) c.has_bit.result (omega arith) (c.has_bit.ensures ∙ ap (λ (w : ℕ). bit w c.args.b) (word_at rs l.j (omega arith))) c.if-has_bit.false ∙ l.invariant

pub returns-clause-row : goal.returns-clause-row
returns-clause-row c =
    let l = c.loop-j in
    let rs = c.args.rows.now in
    let e : length rs ≡ l.j = omega arith in
    e ∙ seek_end (length rs) l.j (λ i. has (rows_of rs) i c.args.b) (omega arith) ∙ l.invariant
