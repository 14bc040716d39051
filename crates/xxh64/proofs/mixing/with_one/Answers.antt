-- `with_one`: step by step as in the definition.
use Prim.Native.Nat.{◌*◌, ◌%◌, ◌^◌}
use native.Mathlib.Omega.{arith}
use lib.Bits.{bit_xor, xor_lt}
use Rattle.xxh64.specs.Checksum.{prime5, mul, one}
use Rattle.xxh64.proofs.WordLaws.{rotation_is}
use Rattle.xxh64.proofs.mixing.with_one.Goals as goal

pub returns : goal.returns
unfolding mul one
returns c =
    let lane = c.from.result * prime5 % 2 ^ 64 in
    cc (rotation_is (bit_xor c.args.begun lane) 11 (xor_lt 64 c.args.begun lane c.ranges.begun.fits (omega arith)) (omega arith))
