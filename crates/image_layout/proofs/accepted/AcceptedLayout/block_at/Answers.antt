-- `block_at`: the start of the group, its cells, and the checksum blocks before this one in it; all
-- of it lies below the second label.
use Rattle.std.proofs.Common.{ℕ, ◌+◌, ◌-◌, ◌*◌, ◌/◌, ap, ap₂, ◌∙◌, arith}
use Rattle.image_layout.specs.Layouts.{cell_bytes, block_in, block_at}
use Rattle.image_layout.proofs.GroupLaws.{stripes_few}
use Rattle.image_layout.proofs.BlockPlaces.{unit_in}
use Rattle.image_layout.proofs.PlaceSums.{block_sum, first_small, number_small}
use Rattle.image_layout.proofs.accepted.AcceptedLayout.block_at.Goals as goal

pub overflow_mul-group : goal.overflow_mul-group
overflow_mul-group c = omega (arith, first_small c.args.self.layout c.args.self.within c.args.unit c.requires)

pub group_start-start-requires : goal.group_start-start-requires
group_start-start-requires c = (unit_in c.args.self.layout c.args.self.within c.args.unit c.requires).group

pub group_stripes-requires : goal.group_stripes-requires
group_stripes-requires c = omega (arith, (unit_in c.args.self.layout c.args.self.within c.args.unit c.requires).group)

pub cell_bytes-cells-requires : goal.cell_bytes-cells-requires
cell_bytes-cells-requires c =
    let l = c.args.self.layout in
    omega (arith, c.group_stripes.ensures, stripes_few l c.args.self.within)

pub overflow_mul-block : goal.overflow_mul-block
overflow_mul-block c =
    let l = c.args.self.layout in
    let ok = c.args.self.within in
    omega (arith, (unit_in l ok c.args.unit c.requires).from, number_small l ok c.args.unit c.requires)

pub overflow_sub-block : goal.overflow_sub-block
overflow_sub-block c = (unit_in c.args.self.layout c.args.self.within c.args.unit c.requires).from

pub overflow_add-result : goal.overflow_add-result
overflow_add-result c =
    let l = c.args.self.layout in
    let cells = c.cell_bytes-cells.ensures ∙ ap (cell_bytes l) c.group_stripes.ensures in
    omega (arith, c.group_start-start.ensures, cells, block_sum l c.args.self.within c.args.unit c.requires)

pub overflow_mul-result : goal.overflow_mul-result
overflow_mul-result c = rw c.block_bytes.ensures (omega (arith, block_sum c.args.self.layout c.args.self.within c.args.unit c.requires))

pub overflow_add-result-2 : goal.overflow_add-result-2
overflow_add-result-2 c =
    let l = c.args.self.layout in
    let cells = c.cell_bytes-cells.ensures ∙ ap (cell_bytes l) c.group_stripes.ensures in
    rw c.block_bytes.ensures (omega (arith, c.group_start-start.ensures, cells, block_sum l c.args.self.within c.args.unit c.requires))

pub returns : goal.returns
unfolding block_at block_in
returns c =
    let l = c.args.self.layout in
    let v = c.args.unit in
    let cells = c.cell_bytes-cells.ensures ∙ ap (cell_bytes l) c.group_stripes.ensures in
    ap₂ ◌+◌ (ap₂ ◌+◌ c.group_start-start.ensures cells) (ap (λ (x : ℕ). (v - v * l.unit / l.group * (l.group / l.unit)) * x) c.block_bytes.ensures)
