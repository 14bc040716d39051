-- `with`: the lanes are the words of the stripe.
use mathlib.Core.Path.{◌≡◌, ap, ◌∙◌}
use mathlib.Core.List.{[]}
use Prim.Native.Nat.{ℕ, ◌*◌, ◌/◌, ◌<◌}
use native.Mathlib.Omega.{arith}
use lib.ListN.{length, get_or}
use mir.Syntax.{w64}
use Rattle.std.specs.Int.{from_le_bytes}
use Rattle.xxh64.specs.Checksum.{round, word}
use Rattle.xxh64.proofs.ByteLaws.{lane_is}
use Rattle.xxh64.proofs.stripes.Accumulators.with.Goals as goal

lane : (c : goal.After-round-4) (k : ℕ) → k < 4 → from_le_bytes w64 (get_or c.as_chunks.result.0.now k []) ≡ word 8 (k * 8) c.args.stripe.now
lane c k h = lane_is c.as_chunks.result.0.now c.args.stripe.now (length c.args.stripe.now / 8) k c.as_chunks.ensures.front (omega (arith, c.told-stripe)) (omega (arith, c.told-stripe))

pub returns-clause-first : goal.returns-clause-first
returns-clause-first c = c.round.ensures ∙ ap (round c.args.self.first) (c.from_le_bytes.ensures ∙ lane c 0 (omega arith))

pub returns-clause-second : goal.returns-clause-second
returns-clause-second c = c.round-2.ensures ∙ ap (round c.args.self.second) (c.from_le_bytes-2.ensures ∙ lane c 1 (omega arith))

pub returns-clause-third : goal.returns-clause-third
returns-clause-third c = c.round-3.ensures ∙ ap (round c.args.self.third) (c.from_le_bytes-3.ensures ∙ lane c 2 (omega arith))

pub returns-clause-fourth : goal.returns-clause-fourth
returns-clause-fourth c = c.round-4.ensures ∙ ap (round c.args.self.fourth) (c.from_le_bytes-4.ensures ∙ lane c 3 (omega arith))
