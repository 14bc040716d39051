-- `walk`: from sums where y is not disk 0, else the first cell and then the walk to disk 0.
use mathlib.Core.Path.{sym, ap, ◌∙◌}
use mathlib.Core.Bool.{Bool}
use borrow.Author.Tests.{le-ltb}
use Rattle.mathematics.specs.Choice.{pick}
use Rattle.liberation.specs.TwoDisks.Pairs.{walked}
use Rattle.liberation.specs.TwoDisksBySums.Sums.{sum_walked}
use Rattle.two_disk_walk.proofs.WalkLaws.{walk_started}
use Rattle.two_disk_walk.proofs.lost_pair.LostPair.walk.Goals as goal

pub returns-else-self-gt0 : goal.returns-else-self-gt0
returns-else-self-gt0 c =
    let a = c.args in
    let g = a.self.geometry in
    walk_started g.array.width g.array.disks g.cell_size a.self.x a.stripe.now c.start.new.stripe c.walk_to_zero.new.stripe c.start.ensures c.walk_to_zero.ensures
    ∙ sym (ap (λ (b : Bool). pick b (sum_walked g.array.width g.array.disks g.cell_size a.self.x a.self.y a.stripe.now) (walked g.array.width g.array.disks g.cell_size a.self.x 0 a.stripe.now)) (le-ltb 0 a.self.y c.if-self-gt0.false))
