-- `two`: the smaller one and the larger one are the two, in this order or the other.
use Rattle.stripe_cells.proofs.AppendedLaws.{two_lost}
use Rattle.stripe_cells.proofs.lost_disks.LostDisks.two.Goals as goal

pub returns : goal.returns
returns c p xs = two_lost p c.args.x c.args.y c.min.result c.max.result xs c.min.ensures c.max.ensures
