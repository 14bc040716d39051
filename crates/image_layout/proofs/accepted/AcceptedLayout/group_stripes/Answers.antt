-- `group_stripes`: what is left of the stripes, at most a whole group.
use Rattle.std.proofs.Common.{arith}
use Rattle.image_layout.specs.Layouts.{group_stripes}
use Rattle.image_layout.proofs.accepted.AcceptedLayout.group_stripes.Goals as goal

pub returns : goal.returns
unfolding group_stripes
returns c = omega arith
