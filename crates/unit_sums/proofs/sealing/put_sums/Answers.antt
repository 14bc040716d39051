-- `put_sums`: after x turns the first x places of the block hold the checksums of the first x
-- pieces.
use mathlib.Core.Path.{◌≡◌, ap, ◌∙◌}
use mathlib.Core.List.{List}
use Prim.Native.Nat.{ℕ, ◌+◌, ◌*◌, ◌≤◌}
use native.Mathlib.Omega.{arith}
use lib.ListN.{length}
use Rattle.liberation.specs.Stripes.Stripes.{cell_at, with_cell}
use Rattle.liberation.proofs.Stripes.StripeCellLaws.{cell_fits}
use Rattle.unit_sums.specs.Sums.{little_endian, sum_of}
use Rattle.unit_sums.proofs.NumberLaws.{eight_bytes, length_little}
use Rattle.unit_sums.proofs.SealLaws.{sum_put, sums_more, sums_end}
use Rattle.unit_sums.proofs.sealing.put_sums.Goals as goal

pub loop-x-preserved : goal.loop-x-preserved
loop-x-preserved c =
    let g = c.args.geometry in
    let l = c.args.label in
    let x = c.loop-x.x in
    let b = c.loop-x.block in
    let sum : ℕ → List ℕ = λ y. little_endian 8 (sum_of g.array.width l.name.now l.unit y (cell_at g.cell_size c.args.cells.now y)) in
    let put : c.copy_from_slice.new.self ≡ sum x =
    c.copy_from_slice.ensures.after ∙ c.to_le_bytes.ensures ∙ eight_bytes c.sum_of-sum.result
    ∙ ap (little_endian 8) (c.sum_of-sum.ensures ∙ ap (sum_of g.array.width l.name.now l.unit x) c.piece_at.ensures) in
    let room : x * 8 + 8 ≤ length b = omega (arith, cell_fits (g.array.width * (g.array.disks + 2)) 8 x (omega arith), c.loop-x.auto.block, c.requires.block) in
    λ y h.
    ap (λ (v : List ℕ). cell_at 8 v y) (sum_put x c.copy_from_slice.new.self b)
    ∙ ap (λ (v : List ℕ). cell_at 8 (with_cell 8 x v b) y) put
    ∙ sums_more sum x b (length_little 8 _) room c.loop-x.invariant y h

pub returns : goal.returns
returns c =
    let g = c.args.geometry in
    sums_end g.array.width g.array.disks g.cell_size c.args.label.name.now c.args.label.unit c.args.cells.now c.loop-x.block (c.loop-x.auto.block ∙ c.requires.block) (λ y h. c.loop-x.invariant y (omega arith))
