-- `unit_stripes`: what is left of the stripes from the unit's first on, at most a whole unit.
use Rattle.std.proofs.Common.{arith}
use Rattle.image_layout.specs.Layouts.{unit_stripes}
use Rattle.image_layout.proofs.BlockPlaces.{unit_first_lem}
use Rattle.image_layout.proofs.SmallLaws.{stripes_small}
use Rattle.image_layout.proofs.accepted.AcceptedLayout.unit_stripes.Goals as goal

pub overflow_mul-left : goal.overflow_mul-left
overflow_mul-left c =
    let l = c.args.self.layout in
    let ok = c.args.self.within in
    omega (arith, unit_first_lem l ok c.args.unit c.requires, stripes_small l ok)

pub overflow_sub-left : goal.overflow_sub-left
overflow_sub-left c = omega (arith, unit_first_lem c.args.self.layout c.args.self.within c.args.unit c.requires)

pub returns : goal.returns
unfolding unit_stripes
returns c = omega arith
