-- `is_sealed`: the last eight bytes of the block are the guard of those before.
use mathlib.Core.Path.{ap, ◌∙◌}
use Prim.Native.Nat.{ℕ, ◌*◌}
use lib.ListN.{take, drop}
use Rattle.unit_sums.specs.Sums.{little_endian}
use Rattle.unit_sums.proofs.NumberLaws.{eight_bytes}
use Rattle.unit_sums.proofs.PieceLaws.{sealed_is}
use Rattle.unit_sums.proofs.block.Block.is_sealed.Goals as goal

pub returns : goal.returns
returns c =
    let a = c.args.self in
    sealed_is a.array.width a.array.disks a.label.unit a.label.name.now a.bytes.now c.split_at.result.0.now c.split_at.result.1.now c.as_slice.result.now c.eq.result
    (c.split_at.ensures.front ∙ ap (λ (n : ℕ). take (n * 8) a.bytes.now) c.cells.ensures.0)
    (c.split_at.ensures.back ∙ ap (λ (n : ℕ). drop (n * 8) a.bytes.now) c.cells.ensures.0)
    (c.as_slice.ensures ∙ c.to_le_bytes.ensures ∙ eight_bytes c.guard_of.result ∙ ap (little_endian 8) c.guard_of.ensures)
    c.eq.ensures
