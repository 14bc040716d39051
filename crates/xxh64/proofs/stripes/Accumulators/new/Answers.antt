-- `new`: sums that wrap; to take a prime off is to add what it lacks of 2^64.
use native.Mathlib.Omega.{arith}
use Rattle.xxh64.specs.Checksum.{add}
use Rattle.xxh64.proofs.stripes.Accumulators.new.Goals as goal

pub returns-clause-first : goal.returns-clause-first
unfolding add
returns-clause-first c = cc

pub returns-clause-second : goal.returns-clause-second
unfolding add
returns-clause-second c = cc

pub returns-clause-fourth : goal.returns-clause-fourth
unfolding add
returns-clause-fourth c = omega arith
