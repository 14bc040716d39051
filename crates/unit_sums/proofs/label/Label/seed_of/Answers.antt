-- `seed_of`: the checksum of the bytes of the place.
use Rattle.unit_sums.specs.Sums.{seed_of}
use Rattle.unit_sums.proofs.label.Label.seed_of.Goals as goal

pub returns : goal.returns
unfolding seed_of
returns c = cc
