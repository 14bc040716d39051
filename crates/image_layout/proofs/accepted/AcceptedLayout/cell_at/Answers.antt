-- `cell_at`: the start of the group, and the cells before this one in it; all of it lies below the
-- second label.
use Rattle.std.proofs.Common.{ℕ, ◌+◌, ◌-◌, ◌*◌, ◌/◌, ap₂, arith}
use Rattle.image_layout.specs.Layouts.{cell_in, cell_at}
use Rattle.image_layout.proofs.PlaceSums.{cell_sum, cell_number}
use Rattle.image_layout.proofs.accepted.AcceptedLayout.cell_at.Goals as goal

pub overflow_mul-cell : goal.overflow_mul-cell
overflow_mul-cell c = rw c.group_stripes.ensures (omega (arith, cell_number c.args.self.layout c.args.self.within c.args.row c.args.stripe c.requires))

pub overflow_add-cell : goal.overflow_add-cell
overflow_add-cell c = rw c.group_stripes.ensures (omega (arith, cell_number c.args.self.layout c.args.self.within c.args.row c.args.stripe c.requires))

pub overflow_mul-result : goal.overflow_mul-result
overflow_mul-result c = rw c.group_stripes.ensures (omega (arith, cell_sum c.args.self.layout c.args.self.within c.args.row c.args.stripe c.requires))

pub overflow_add-result : goal.overflow_add-result
overflow_add-result c = rw (c.group_stripes.ensures, c.group_start-start.ensures) (omega (arith, cell_sum c.args.self.layout c.args.self.within c.args.row c.args.stripe c.requires))

pub returns : goal.returns
unfolding cell_at cell_in
returns c =
    let a = c.args in
    let l = a.self.layout in
    ap₂ (λ (x y : ℕ). x + (a.row * y + (a.stripe - a.stripe / l.group * l.group)) * l.cell_size) c.group_start-start.ensures c.group_stripes.ensures
