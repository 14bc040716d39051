-- `merged`: step by step as in the definition.
use Rattle.xxh64.specs.Checksum.{add, mul, merge}
use Rattle.xxh64.proofs.mixing.merged.Goals as goal

pub returns : goal.returns
unfolding add mul merge
returns c = cc
