-- `gather_lists`: the first list is gathered, the others are added.
use Rattle.xor_in_place.proofs.ListLaws.{lists_done}
use Rattle.xor_in_place.proofs.lists.gather_lists.Goals as goal

pub returns : goal.returns
returns c = let a = c.args in lists_done a.d a.n a.t.now a.at.now c.requires c.min-first.result c.gather_within.new.t c.add_lists.new.t c.gather_within.ensures c.add_lists.ensures
