-- `open_unit`: the refusals in their order, each leaving marks and cells unchanged; else the
-- missing pieces are mended.
use mathlib.Core.Path.{◌≡◌}
use mathlib.Core.Bool.{true}
use borrow.Author.Rules.{rules}
use Rattle.mathematics.specs.Xor.{all_bytes}
use Rattle.xor.proofs.SourceLaws.{bytes_all}
use Rattle.unit_opening.proofs.open_unit.Goals as goal

pub returns-in_err-unit : goal.returns-in_err-unit
returns-in_err-unit c = let bytes : all_bytes c.args.cells.now ≡ true = bytes_all c.args.cells.now c.type_inv.cells in search rules

pub returns-in_err-check_length : goal.returns-in_err-check_length
returns-in_err-check_length c = let bytes : all_bytes c.args.cells.now ≡ true = bytes_all c.args.cells.now c.type_inv.cells in search rules

pub returns-in_err-check_guard : goal.returns-in_err-check_guard
returns-in_err-check_guard c = let bytes : all_bytes c.args.cells.now ≡ true = bytes_all c.args.cells.now c.type_inv.cells in search rules
