-- `write_block`: the checksums of all pieces, then their guard in the last eight bytes.
use mathlib.Core.Path.{◌≡◌, ap, ap₂, ◌∙◌}
use mathlib.Core.List.{◌++◌}
use Prim.Native.Nat.{ℕ, ◌*◌}
use lib.ListN.{take}
use Rattle.unit_sums.specs.Sums.{little_endian, sums_of, guard_of, block_of}
use Rattle.unit_sums.proofs.NumberLaws.{eight_bytes}
use Rattle.unit_sums.proofs.sealing.write_block.Goals as goal

pub returns : goal.returns
unfolding block_of
returns c =
    let g = c.args.geometry in
    let sums : c.split_at_mut-sums.result.0.now ≡ sums_of g.array.width g.array.disks g.cell_size c.args.label.name.now c.args.label.unit c.args.cells.now =
    c.split_at_mut-sums.ensures.front ∙ ap (λ (n : ℕ). take (n * 8) c.put_sums.new.block) c.cells.ensures.0 ∙ c.put_sums.ensures in
    ap₂ ◌++◌ sums
    (c.copy_from_slice.ensures.after ∙ c.to_le_bytes.ensures ∙ eight_bytes c.guard_of.result ∙ ap (little_endian 8) (c.guard_of.ensures ∙ ap (guard_of c.args.label.name.now c.args.label.unit) sums))
