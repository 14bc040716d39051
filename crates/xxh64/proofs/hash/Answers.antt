-- `hash`: step by step as in the definition.
use Rattle.xxh64.specs.Checksum.{add, xxh64}
use Rattle.xxh64.proofs.hash.Goals as goal

pub returns : goal.returns
unfolding add xxh64
returns c = cc
