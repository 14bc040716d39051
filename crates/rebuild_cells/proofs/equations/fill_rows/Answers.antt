-- `fill_rows`: each turn puts in the row of a set.
use mathlib.Core.Path.{ap, ◌∙◌}
use native.Mathlib.Omega.{arith}
use lib.Seq.{map-set}
use Rattle.rebuild_cells.specs.declared.reduction.Row.{Row}
use Rattle.rebuild_cells.specs.RowLists.{words_of, sums_of}
use Rattle.rebuild_cells.specs.Theory.Mending.{word_of}
use Rattle.rebuild_cells.proofs.WordLoops.{fill_turn, fill_end}
use Rattle.rebuild_cells.proofs.equations.fill_rows.Goals as goal

pub loop-number-preserved : goal.loop-number-preserved
loop-number-preserved c =
    let l = c.loop-number in
    let a = c.args.array in
    rw (map-set (λ (r : Row). r.word) l.rows l.number _, map-set (λ (r : Row). r.sum) l.rows l.number _)
    (fill_turn a.width a.disks c.args.cells.now (words_of l.rows) (sums_of l.rows) l.number c.set_word.result c.bit_of.result l.invariant (omega (arith, c.requires.rows_len)) (c.set_word.ensures ∙ ap (word_of c.args.cells.now) c.set_numbered.ensures.1) c.bit_of.ensures)

pub returns : goal.returns
returns c =
    let l = c.loop-number in
    let a = c.args.array in
    fill_end a.width a.disks c.args.cells.now (words_of l.rows) (sums_of l.rows) l.number l.invariant (omega (arith, c.requires.rows_len))
