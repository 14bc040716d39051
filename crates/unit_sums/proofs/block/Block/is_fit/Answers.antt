-- `is_fit`: the eight bytes of the block at the place are compared with the checksum.
use mathlib.Core.Path.{ap, ◌∙◌}
use mathlib.Core.List.{List, []}
use Prim.Native.Nat.{ℕ, ◌/◌}
use native.Mathlib.Omega.{arith}
use lib.ListN.{length, get_or}
use Rattle.xxh64.proofs.ByteLaws.{chunk_at}
use Rattle.unit_sums.specs.Sums.{little_endian}
use Rattle.unit_sums.proofs.NumberLaws.{eight_bytes}
use Rattle.unit_sums.proofs.FitLaws.{fit_at_is}
use Rattle.unit_sums.proofs.block.Block.is_fit.Goals as goal

pub returns : goal.returns
returns c =
    let a = c.args.self in
    let sums = c.as_chunks.result.0.now in
    fit_at_is a.array.width a.label.unit c.args.x a.label.name.now a.bytes.now c.args.piece.now (get_or sums c.args.x []) c.to_le_bytes.result c.eq.result
    (ap (λ (v : List (List ℕ)). get_or v c.args.x []) c.as_chunks.ensures.front ∙ chunk_at 8 (length a.bytes.now / 8) c.args.x a.bytes.now [] (omega (arith, a.long, c.requires)))
    (c.to_le_bytes.ensures ∙ eight_bytes c.sum_of.result ∙ ap (little_endian 8) c.sum_of.ensures)
    c.eq.ensures
