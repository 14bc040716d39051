-- `solve_ordered`: by the higher disk, which is a data disk, P or Q.
use borrow.Author.Rules.{rules}
use Rattle.rebuild_two.proofs.DiskLaws.{ordered_data, ordered_row, ordered_diagonal}
use Rattle.rebuild_two.proofs.pair.solve_ordered.Goals as goal

pub returns-in-Less : goal.returns-in-Less
returns-in-Less c =
    let a = c.args in
    let g = a.geometry in
    ordered_data g.array.width g.array.disks g.cell_size a.a a.b a.stripe.now c.solve_data.new.stripe (search rules) c.solve_data.ensures

pub returns-in-Equal : goal.returns-in-Equal
returns-in-Equal c =
    let a = c.args in
    let g = a.geometry in
    ordered_row g.array.width g.array.disks g.cell_size a.a a.b a.stripe.now c.with_row_parity.new.stripe (search rules) (search rules) c.with_row_parity.ensures

pub returns-in-Greater : goal.returns-in-Greater
returns-in-Greater c =
    let a = c.args in
    let g = a.geometry in
    ordered_diagonal g.array.width g.array.disks g.cell_size a.a a.b a.stripe.now c.with_diagonal_parity.new.stripe (search rules) (search rules) c.with_diagonal_parity.ensures
