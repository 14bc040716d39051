-- `with_eight`: step by step as in the definition.
use native.Mathlib.Omega.{arith}
use lib.Bits.{bit_xor, xor_lt}
use Rattle.xxh64.specs.Checksum.{add, mul, eight}
use Rattle.xxh64.proofs.WordLaws.{rotation_is}
use Rattle.xxh64.proofs.ByteLaws.{number_eight}
use Rattle.xxh64.proofs.mixing.with_eight.Goals as goal

pub returns : goal.returns
unfolding add mul eight
returns c =
    cc (number_eight c.args.bytes.now c.told-bytes, rotation_is (bit_xor c.args.begun c.round.result) 27 (xor_lt 64 c.args.begun c.round.result c.ranges.begun.fits c.round.type_inv) (omega arith))
