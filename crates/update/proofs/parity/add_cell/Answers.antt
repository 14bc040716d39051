-- `add_cell`: the gather of the cell itself and the other one, which lies before it.
use mathlib.Core.Path.{◌∙◌}
use Rattle.xor.proofs.SourceLaws.{bytes_all}
use Rattle.update.proofs.FromCell.{two_beside, two_added}
use Rattle.update.proofs.parity.add_cell.Goals as goal

pub gather_within-requires : goal.gather_within-requires
gather_within-requires c =
    let a = c.args in
    two_beside a.size a.from a.to a.stripe.now c.requires.0 c.requires.1

pub returns : goal.returns
returns c =
    let a = c.args in
    c.gather_within.ensures ∙ two_added a.size a.from a.to a.stripe.now c.requires.0 c.requires.1 (bytes_all a.stripe.now c.slice_known-1.given)
