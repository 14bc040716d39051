-- `with_four`: step by step as in the definition.
use mathlib.Core.Path.{◌≡◌, ◌∙◌}
use Prim.Native.Nat.{◌*◌, ◌%◌, ◌^◌}
use native.Mathlib.Omega.{arith}
use lib.Bits.{bit_xor, xor_lt}
use Rattle.xxh64.specs.Checksum.{prime1, number, add, mul, four}
use Rattle.xxh64.proofs.WordLaws.{rotation_is}
use Rattle.xxh64.proofs.ByteLaws.{number_four}
use Rattle.xxh64.proofs.mixing.with_four.Goals as goal

pub returns : goal.returns
unfolding add mul four
returns c =
    let lane = c.from-lane.result * prime1 % 2 ^ 64 in
    let e : c.from-lane.result ≡ number c.args.bytes.now = c.from-lane.ensures ∙ c.from_le_bytes.ensures ∙ number_four c.args.bytes.now c.told-bytes in
    cc (e, rotation_is (bit_xor c.args.begun lane) 23 (xor_lt 64 c.args.begun lane c.ranges.begun.fits (omega arith)) (omega arith))
