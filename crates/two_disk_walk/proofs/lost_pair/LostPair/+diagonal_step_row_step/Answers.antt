-- Each step is the next clause of the walk: with no step left nothing is done, and otherwise a cell
-- comes back and the other step goes on with one step less.
use mathlib.Core.Path.{refl}
use Rattle.liberation.specs.Plans.{diagonal_of}
use Rattle.two_disk_walk.proofs.WalkClauses.{diagonal_none, diagonal_more, row_none, row_more}
use Rattle.two_disk_walk.proofs.lost_pair.LostPair.+diagonal_step_row_step.Goals as goal

pub diagonal_step-returns-then-left-eq0 : goal.diagonal_step-returns-then-left-eq0
diagonal_step-returns-then-left-eq0 t c =
    let a = c.args in
    let s = a.self.now in
    let g = s.geometry in
    diagonal_none g.array.width g.array.disks g.cell_size s.x s.y a.left a.row a.stripe.now c.if-left-eq0.true

pub diagonal_step-returns : goal.diagonal_step-returns
diagonal_step-returns t c =
    let a = c.args in
    let s = a.self.now in
    let g = s.geometry in
    let n = c.solve_diagonal-next in
    diagonal_more g.array.width g.array.disks g.cell_size s.x s.y a.left a.row (diagonal_of g.array.width s.x a.row) n.result a.stripe.now n.new.stripe c.row_step.new.stripe refl n.ensures.row.0 c.if-left-eq0.false n.ensures.cell c.row_step.ensures

pub row_step-returns-then-left-eq0 : goal.row_step-returns-then-left-eq0
row_step-returns-then-left-eq0 t c =
    let a = c.args in
    let s = a.self.now in
    let g = s.geometry in
    row_none g.array.width g.array.disks g.cell_size s.x s.y a.left a.row a.stripe.now c.if-left-eq0.true

pub row_step-returns : goal.row_step-returns
row_step-returns t c =
    let a = c.args in
    let s = a.self.now in
    let g = s.geometry in
    row_more g.array.width g.array.disks g.cell_size s.x s.y a.left a.row a.stripe.now c.solve_row.new.stripe c.diagonal_step.new.stripe c.if-left-eq0.false c.solve_row.ensures c.diagonal_step.ensures
