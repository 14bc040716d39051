-- `round`: step by step as in the definition.
use Prim.Native.Nat.{◌+◌, ◌*◌, ◌%◌, ◌^◌}
use native.Mathlib.Omega.{arith}
use Rattle.xxh64.specs.Checksum.{prime2, add, mul, round}
use Rattle.xxh64.proofs.WordLaws.{rotation_is}
use Rattle.xxh64.proofs.mixing.round.Goals as goal

pub returns : goal.returns
unfolding add mul round
returns c = cc (rotation_is ((c.args.acc + c.args.lane * prime2 % 2 ^ 64) % 2 ^ 64) 31 (omega arith) (omega arith))
