-- `is_clean`: the sets of both kinds, the diagonals only where all rows are clean.
use mathlib.Core.Path.{◌∙◌}
use Rattle.scrub.proofs.CheckLaws.{clean_rows, clean_both}
use Rattle.scrub.proofs.clean.is_clean.Goals as goal

pub returns-then-rows_are_clean : goal.returns-then-rows_are_clean
returns-then-rows_are_clean c =
    let w = c.args.geometry in
    clean_both w.array.width w.array.disks w.cell_size c.args.stripe.now c.rows_are_clean.result c.diagonals_are_clean.result c.rows_are_clean.ensures c.if-rows_are_clean.true c.diagonals_are_clean.ensures

pub returns-else-rows_are_clean : goal.returns-else-rows_are_clean
returns-else-rows_are_clean c =
    let w = c.args.geometry in
    c.if-rows_are_clean.false ∙ clean_rows w.array.width w.array.disks w.cell_size c.args.stripe.now c.rows_are_clean.result c.rows_are_clean.ensures c.if-rows_are_clean.false
