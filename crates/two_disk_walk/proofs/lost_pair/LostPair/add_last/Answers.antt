-- `add_last`: the first of the last steps, then the others.
use Rattle.two_disk_walk.proofs.AddLoops.{adds_first}
use Rattle.two_disk_walk.proofs.lost_pair.LostPair.add_last.Goals as goal

pub returns : goal.returns
returns c =
    let a = c.args in
    let g = a.self.geometry in
    adds_first g.array.width g.array.disks g.cell_size a.self.x a.self.y a.count a.row a.stripe.now c.add_set.new.stripe c.add_sets.new.stripe c.add_set.ensures c.add_sets.ensures
