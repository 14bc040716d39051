-- `clear_row`: another row that has the unknown takes row b.
use mathlib.Core.Path.{sym, ap, ◌∙◌}
use Prim.Native.Nat.{ℕ}
use native.Mathlib.Omega.{arith}
use Rattle.mathematics.specs.BitRows.Parity.{bit}
use Rattle.rebuild_cells.proofs.RowListLaws.{word_at, row_plus}
use Rattle.rebuild_cells.proofs.reduction.clear_row.Goals as goal

pub returns-then-has_bit : goal.returns-then-has_bit
returns-then-has_bit c =
    let a = c.args in
    row_plus a.rows.now a.b a.i (omega arith) (omega arith) c.if-i-b.true (ap (λ (w : ℕ). bit w a.b) (sym (word_at a.rows.now a.i (omega arith))) ∙ sym c.has_bit.ensures ∙ c.if-has_bit.true)
