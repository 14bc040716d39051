-- `try_unit`: the unit is one of the layout, so the first cell of its row is, and its piece is short.
use Rattle.std.proofs.Common.{rules, ◌≡◌, arith}
use Rattle.image_layout.specs.Layouts.{piece_at, piece_bytes}
use Rattle.image_layout.specs.Limits.{unit_refusal}
use Rattle.image_layout.proofs.LimitLaws.{accepted, unit_of_lem}
use Rattle.image_layout.proofs.PieceLaws.{first_cell_lem, bytes_small}
use Rattle.image_layout.proofs.PlaceSums.{first_small}
use Rattle.image_layout.proofs.try_unit.Goals as goal

pub overflow_mul-first : goal.overflow_mul-first
overflow_mul-first c =
    let l = c.args.layout in
    let none : unit_refusal l c.args.row c.args.unit ≡ 0 = search rules in
    let t = unit_of_lem l c.args.row c.args.unit none in
    omega (arith, first_small l (accepted l t.0) c.args.unit t.1)

pub cell_at-requires : goal.cell_at-requires
cell_at-requires c =
    let l = c.args.layout in
    let none : unit_refusal l c.args.row c.args.unit ≡ 0 = search rules in
    let t = unit_of_lem l c.args.row c.args.unit none in
    rw c.in_ok-accepted.ensures.numbers (first_cell_lem l (accepted l t.0) c.args.row c.args.unit t.2 t.1)

pub overflow_mul-result : goal.overflow_mul-result
overflow_mul-result c =
    let a = c.in_ok-accepted.accepted in
    let same : a.layout ≡ c.args.layout = c.in_ok-accepted.ensures.numbers in
    rw (c.unit_stripes-stripes.ensures, ← same) (omega (arith, bytes_small a.layout a.within c.args.unit))

pub returns-clause-place : goal.returns-clause-place
unfolding piece_at piece_bytes
returns-clause-place c = search rules
