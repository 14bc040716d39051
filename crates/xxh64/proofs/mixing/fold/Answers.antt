-- `fold`: the two operations are those of the definition.
use Rattle.xxh64.specs.Checksum.{folded}
use Rattle.xxh64.proofs.mixing.fold.Goals as goal

pub returns : goal.returns
unfolding folded
returns c = cc
