-- `write_diagonal`: each turn writes the offset of the diagonal's cell on the next disk.
use mathlib.Core.Path.{◌≡◌, sym, ap, ◌∙◌}
use Prim.Native.Nat.{ℕ, ◌+◌, ◌*◌, ◌%◌}
use native.Mathlib.Omega.{arith}
use Rattle.liberation.specs.Sets.{place}
use Rattle.liberation.proofs.DiagonalRows.{row_on}
use Rattle.stripe_cells.proofs.WritingLaws.{writing_start, writing_turn, writing_end, small_cell, small_top}
use Rattle.stripe_cells.proofs.disk_cells.write_diagonal.Goals as goal

pub overflow_mul-top : goal.overflow_mul-top
overflow_mul-top c =
    let g = c.args.geometry in
    omega (arith, small_top g.array.width g.cell_size c.args.disk g.array.widest g.small (omega arith), ap (λ (n : ℕ). c.args.disk * n) c.column_bytes-column.ensures.0)

pub loop-slot-init : goal.loop-slot-init
loop-slot-init c =
    let g = c.args.geometry in
    let z : c.args.disk + 0 ≡ c.args.disk = omega arith in (
      c.row_on-row.ensures (omega arith) ∙ ap (λ (d : ℕ). (c.args.number + d) % g.array.width) (sym z),
      ap (λ (n : ℕ). c.args.disk * n) c.column_bytes-column.ensures.0 ∙ ap (λ (d : ℕ). d * (g.array.width * g.cell_size)) (sym z),
      writing_start,
    )

pub overflow_mul-slot : goal.overflow_mul-slot
overflow_mul-slot c =
    let g = c.args.geometry in
    let l = c.loop-slot in
    let w = small_cell g.array.width g.cell_size c.args.number (c.args.disk + l.slot-index) l.row l.top c.requires.numbered g.array.widest g.small (omega arith) l.invariant.0 l.invariant.1 in
    omega (arith, w.1)

pub overflow_add-slot : goal.overflow_add-slot
overflow_add-slot c =
    let g = c.args.geometry in
    let l = c.loop-slot in
    let w = small_cell g.array.width g.cell_size c.args.number (c.args.disk + l.slot-index) l.row l.top c.requires.numbered g.array.widest g.small (omega arith) l.invariant.0 l.invariant.1 in
    omega (arith, w.1, w.2)

pub overflow_add-top : goal.overflow_add-top
overflow_add-top c =
    let g = c.args.geometry in
    let l = c.loop-slot in
    let w = small_cell g.array.width g.cell_size c.args.number (c.args.disk + l.slot-index) l.row l.top c.requires.numbered g.array.widest g.small (omega arith) l.invariant.0 l.invariant.1 in
    omega (arith, w.2, c.column_bytes-column.ensures.1)

pub next_row-row-requires : goal.next_row-row-requires
next_row-row-requires c =
    let g = c.args.geometry in
    let l = c.loop-slot in
    let w = small_cell g.array.width g.cell_size c.args.number (c.args.disk + l.slot-index) l.row l.top c.requires.numbered g.array.widest g.small (omega arith) l.invariant.0 l.invariant.1 in
    omega (arith, w.0)

pub loop-slot-preserved : goal.loop-slot-preserved
loop-slot-preserved c =
    let a = c.args in
    let g = a.geometry in
    let l = c.loop-slot in
    let n = a.disk + l.slot-index in
    let z : n + 1 ≡ a.disk + (l.slot-index + 1) = omega arith in
    let x : l.top + l.row * g.cell_size ≡ place g.array.width ((a.number + n) % g.array.width) n * g.cell_size = ap (λ (r : ℕ). l.top + r * g.cell_size) l.invariant.0 ∙ ap (λ (t : ℕ). t + (a.number + n) % g.array.width * g.cell_size) l.invariant.1 ∙ omega arith in (
      row_on g.array.width a.number n l.row c.next_row-row.result l.invariant.0 c.next_row-row.ensures ∙ ap (λ (d : ℕ). (a.number + d) % g.array.width) z,
      ap (λ (t : ℕ). l.top + t) c.column_bytes-column.ensures.0 ∙ ap (λ (t : ℕ). t + g.array.width * g.cell_size) l.invariant.1 ∙ omega arith,
      writing_turn _ (omega arith) x l.invariant.2,
    )

pub returns : goal.returns
returns c = writing_end (omega arith) c.loop-slot.invariant.2
