-- `check_bytes`: what is left of 2^48 and of the list: a length above what is left takes the whole
-- over 2^48, since the lengths after it only add to it.
use Rattle.std.proofs.Common.{◌≡◌, ◌+◌, ◌^◌, ◌≤◌, drop}
use Rattle.mathematics.specs.Sums.{total}
use Rattle.space.proofs.limits.check_bytes.Given as goal

abbrev pub invariant-loop-bytes : goal.invariant-loop-bytes
invariant-loop-bytes l = record { within : l.left ≤ 2 ^ 48; rest : total l.lengths + l.left ≡ 2 ^ 48 + total (drop l.bytes-index l.lengths) }
