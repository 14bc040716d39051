-- `start`: the stripes that are left give what all of them give.
use mathlib.Core.Path.{◌≡◌}
use Prim.Native.Nat.{◌-◌, ◌*◌}
use lib.ListN.{length}
use Rattle.xxh64.specs.Checksum.{stripes, start}
use Rattle.xxh64.proofs.start.Given as goal

abbrev pub invariant-loop-stripe : goal.invariant-loop-stripe
invariant-loop-stripe l = stripes (length l.stripes - l.stripe-index) (l.stripe-index * 32) l.bytes l.accumulators.first l.accumulators.second l.accumulators.third l.accumulators.fourth ≡ start (length l.stripes) l.bytes l.seed
