-- `gather_list`: the list, and one gather.
use Rattle.stripe_cells.proofs.GatherLaws.{list_beside, list_added}
use Rattle.stripe_cells.proofs.odd_cells.gather_list.Goals as goal

pub gather_within-requires : goal.gather_within-requires
gather_within-requires c =
    let a = c.args in
    let p = c.push_odd-next in
    rw c.as_slice.ensures.0 (list_beside a.size a.to a.marks.now a.stripe.now c.requires.marked.0 a.list.now p.new.list a.from a.most p.result c.requires.room c.requires.own p.ensures)

pub returns : goal.returns
returns c =
    let a = c.args in
    let p = c.push_odd-next in
    let g = c.gather_within in
    list_added a.size a.to a.marks.now a.stripe.now c.requires.marked.0 a.list.now p.new.list a.from a.most p.result c.requires.room c.requires.own p.ensures g.new.t (rw c.as_slice.ensures.0 at g.ensures)
