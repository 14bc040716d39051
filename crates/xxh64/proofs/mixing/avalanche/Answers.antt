-- `avalanche`: step by step as in the definition.
use Rattle.xxh64.specs.Checksum.{mul, avalanche}
use Rattle.xxh64.proofs.mixing.avalanche.Goals as goal

pub returns : goal.returns
unfolding mul avalanche
returns c = cc
