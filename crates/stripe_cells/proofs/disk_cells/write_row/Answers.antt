-- `write_row`: each turn writes the offset of the row's cell on the next disk.
use mathlib.Core.Path.{◌≡◌, sym, ap, ◌∙◌}
use Prim.Native.Nat.{ℕ, ◌+◌, ◌*◌}
use native.Mathlib.Omega.{arith}
use Rattle.stripe_cells.proofs.WritingLaws.{writing_start, writing_turn, writing_end, small_row, small_top}
use Rattle.stripe_cells.proofs.disk_cells.write_row.Goals as goal

pub overflow_mul-offset : goal.overflow_mul-offset
overflow_mul-offset c =
    let g = c.args.geometry in
    omega (arith, small_top g.array.width g.cell_size c.args.disk g.array.widest g.small (omega arith), ap (λ (n : ℕ). c.args.disk * n) c.column_bytes-column.ensures.0)

pub overflow_mul-offset-2 : goal.overflow_mul-offset-2
overflow_mul-offset-2 c =
    let g = c.args.geometry in
    omega (arith, small_row g.array.width g.cell_size c.args.number g.array.widest g.small c.requires.numbered)

pub overflow_add-offset : goal.overflow_add-offset
overflow_add-offset c =
    let g = c.args.geometry in
    omega (
      arith,
      small_top g.array.width g.cell_size c.args.disk g.array.widest g.small (omega arith),
      small_row g.array.width g.cell_size c.args.number g.array.widest g.small c.requires.numbered,
      ap (λ (n : ℕ). c.args.disk * n) c.column_bytes-column.ensures.0,
    )

pub loop-slot-init : goal.loop-slot-init
loop-slot-init c =
    let g = c.args.geometry in
    let z : c.args.disk + 0 ≡ c.args.disk = omega arith in
    (ap (λ (n : ℕ). c.args.disk * n + c.args.number * g.cell_size) c.column_bytes-column.ensures.0 ∙ ap (λ (d : ℕ). d * (g.array.width * g.cell_size) + c.args.number * g.cell_size) (sym z), writing_start)

pub overflow_add-offset-in-loop-slot : goal.overflow_add-offset-in-loop-slot
overflow_add-offset-in-loop-slot c =
    let g = c.args.geometry in
    let l = c.loop-slot in
    omega (
      arith,
      small_top g.array.width g.cell_size (c.args.disk + l.slot-index) g.array.widest g.small (omega arith),
      small_row g.array.width g.cell_size c.args.number g.array.widest g.small c.requires.numbered,
      l.invariant.0,
      c.column_bytes-column.ensures.1,
    )

pub loop-slot-preserved : goal.loop-slot-preserved
loop-slot-preserved c =
    let g = c.args.geometry in
    let l = c.loop-slot in (
      ap (λ (n : ℕ). l.offset + n) c.column_bytes-column.ensures.0 ∙ ap (λ (n : ℕ). n + g.array.width * g.cell_size) l.invariant.0 ∙ omega arith,
      writing_turn _ (omega arith) (l.invariant.0 ∙ omega arith) l.invariant.1,
    )

pub returns : goal.returns
returns c = writing_end (omega arith) c.loop-slot.invariant.1
