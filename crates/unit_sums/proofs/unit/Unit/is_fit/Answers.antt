-- `is_fit`: the piece is the cell at its place.
use Rattle.unit_sums.proofs.FitLaws.{fits_at_lem}
use Rattle.unit_sums.proofs.unit.Unit.is_fit.Goals as goal

pub returns : goal.returns
returns c =
    let u = c.args.self in
    cc (c.geometry.ensures.1, fits_at_lem u.block.array.width u.piece_bytes u.block.label.name.now u.block.label.unit u.block.bytes.now c.args.cells.now c.args.x)
