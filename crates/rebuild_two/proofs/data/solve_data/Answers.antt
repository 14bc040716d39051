-- `solve_data`: the walk goes from a to b, or from b to a.
use Rattle.xor.proofs.SourceLaws.{bytes_all}
use Rattle.refusals.proofs.WithinLimits.{sized}
use Rattle.rebuild_two.proofs.DataLaws.{solved_forward, solved_back}
use Rattle.rebuild_two.proofs.data.solve_data.Goals as goal

pub returns-then-goes_forward : goal.returns-then-goes_forward
returns-then-goes_forward c =
    let f = c.goes_forward in
    let a = c.args in
    let g = a.geometry in
    solved_forward g.array.width g.array.disks g.cell_size a.a a.b a.stripe.now c.walk.new.stripe (sized g a.stripe.now c.requires.long) (bytes_all a.stripe.now c.slice_known-1.given) c.requires.a_lt_b.0 c.requires.a_lt_b.1 f.result f.ensures c.if-goes_forward.true c.walk.ensures

pub returns-else-goes_forward : goal.returns-else-goes_forward
returns-else-goes_forward c =
    let f = c.goes_forward in
    let a = c.args in
    let g = a.geometry in
    solved_back g.array.width g.array.disks g.cell_size a.a a.b a.stripe.now c.walk-else-goes_forward.new.stripe (sized g a.stripe.now c.requires.long) (bytes_all a.stripe.now c.slice_known-1.given) c.requires.a_lt_b.0 c.requires.a_lt_b.1 f.result f.ensures c.if-goes_forward.false c.walk-else-goes_forward.ensures
