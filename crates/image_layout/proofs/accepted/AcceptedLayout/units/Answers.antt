-- `units`: the stripes divided by those of a unit, rounded up.
use Rattle.std.proofs.Common.{ℕ, ap, ◌∙◌}
use Rattle.std.specs.Int.{div_ceil}
use Rattle.space.proofs.FilesLaws.{ceil_is}
use Rattle.image_layout.specs.Layouts.{stripes_of, units_of}
use Rattle.image_layout.proofs.accepted.AcceptedLayout.units.Goals as goal

pub returns : goal.returns
unfolding units_of
returns c =
    let l = c.args.self.layout in
    c.div_ceil.ensures ∙ ap (λ (n : ℕ). div_ceil n l.unit) c.stripes.ensures ∙ ceil_is (stripes_of l) l.unit c.args.self.within.unit
