-- `check_stripes`: the two tests are those of the definition; a quotient is compared, so that no
-- product can wrap.
use mathlib.Core.Path.{sym}
use Rattle.unit_sums.proofs.UnitRefusals.{stripes_none, stripes_over}
use Rattle.unit_sums.proofs.unit.check_stripes.Goals as goal
use Rattle.unit_sums.proofs.unit.check_stripes.Goals.{then-stripes-eq0-via-then-stripes-eq0, then-stripes-eq0-via-else-stripes-eq0+then-cell_size-stripes}

pub returns-then-stripes-eq0 : goal.returns-then-stripes-eq0
returns-then-stripes-eq0 c =
    elim c.then-stripes-eq0.branch [
      | then-stripes-eq0-via-then-stripes-eq0 w ↦ sym (stripes_none c.args.cell_size c.args.stripes w.if-stripes-eq0.true)
      | then-stripes-eq0-via-else-stripes-eq0+then-cell_size-stripes w ↦ sym (stripes_over c.args.cell_size c.args.stripes c.requires w.if-stripes-eq0.false w.if-cell_size-stripes.true)
    ]
