-- `check_pieces`: the cells that the bytes lie in are from the first to the last, and no place is
-- compared twice.
use mathlib.Core.Path.{sym, ap, ◌∙◌}
use mathlib.Core.Bool.{Bool, not}
use Rattle.mathematics.specs.Choice.{when}
use Rattle.unit_film.proofs.FilmRefusals.{pieces_are}
use Rattle.unit_film.proofs.pieces.check_pieces.Goals as goal

pub returns-then-are_fit_around : goal.returns-then-are_fit_around
returns-then-are_fit_around c =
    let a = c.args in
    let b = a.unit.block in
    sym
    (ap (λ (x : Bool). when (not x) 24)
    (sym (pieces_are b.array.width b.array.disks a.unit.piece_bytes b.label.name.now b.label.unit b.bytes.now a.cells.now a.cell_size a.from a.count c.div_ceil-past.result c.min.result c.are_fit_around.result c.requires.bytes c.div_ceil-past.ensures c.min.ensures c.are_fit_around.ensures) ∙ c.if-are_fit_around.true))

pub returns : goal.returns
returns c =
    let a = c.args in
    let b = a.unit.block in
    sym
    (ap (λ (x : Bool). when (not x) 24)
    (sym (pieces_are b.array.width b.array.disks a.unit.piece_bytes b.label.name.now b.label.unit b.bytes.now a.cells.now a.cell_size a.from a.count c.div_ceil-past.result c.min.result c.are_fit_around.result c.requires.bytes c.div_ceil-past.ensures c.min.ensures c.are_fit_around.ensures) ∙ c.if-are_fit_around.false))
