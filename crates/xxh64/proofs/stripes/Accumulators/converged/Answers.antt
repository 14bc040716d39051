-- `converged`: step by step as in the definition.
use native.Mathlib.Omega.{arith}
use Rattle.xxh64.specs.Checksum.{add, converge}
use Rattle.xxh64.proofs.WordLaws.{rotation_is}
use Rattle.xxh64.proofs.stripes.Accumulators.converged.Goals as goal

pub returns : goal.returns
unfolding add converge
returns c =
    let a = c.args.self in
    cc (rotation_is a.first 1 (omega arith) (omega arith), rotation_is a.second 7 (omega arith) (omega arith), rotation_is a.third 12 (omega arith) (omega arith), rotation_is a.fourth 18 (omega arith) (omega arith))
