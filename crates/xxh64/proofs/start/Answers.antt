-- `start`: without a stripe and with some.
use mathlib.Core.Path.{◌≡◌, ap, sym, ◌∙◌}
use mathlib.Core.List.{[]}
use Prim.Native.Nat.{ℕ, ◌-◌, ◌*◌, ◌/◌, ◌<◌, ◌≤◌}
use native.Mathlib.Omega.{arith}
use lib.ListN.{length, get_or}
use Rattle.std.specs.Simd.{first_chunks}
use Rattle.xxh64.specs.Checksum.{add}
use Rattle.xxh64.proofs.ByteLaws.{chunk_word}
use Rattle.xxh64.proofs.LoopLaws.{start_none, start_more, stripes_none, stripes_step}
use Rattle.xxh64.proofs.start.Goals as goal

pub returns-then-is_empty : goal.returns-then-is_empty
unfolding add
returns-then-is_empty c =
    let none : length c.as_chunks.result.0.now ≤ 0 = grind arith in
    sym (start_none (length c.args.bytes.now / 32) c.args.bytes.now c.args.seed (omega (arith, c.as_chunks.ensures.front_len)))

pub loop-stripe-init : goal.loop-stripe-init
loop-stripe-init c =
    let n = length c.as_chunks.result.0.now in
    let some : 0 < n = grind arith in
    let all : n - 0 ≡ n = omega arith in
    let none : 0 * 32 ≡ 0 = omega arith in
    cc (start_more n c.args.bytes.now c.args.seed some)

pub loop-stripe-preserved : goal.loop-stripe-preserved
loop-stripe-preserved c =
    let k = c.loop-stripe.stripe-index in
    let stripes = c.as_chunks.result.0.now in
    let n = length stripes in
    let bs = c.args.bytes.now in
    let a = c.loop-stripe.accumulators in
    let b = c.with-accumulators.result in
    let e = c.with-accumulators.ensures in
    let chunks : stripes ≡ first_chunks 32 n bs = c.as_chunks.ensures.front ∙ ap (λ (q : ℕ). first_chunks 32 q bs) (sym c.as_chunks.ensures.front_len) in
    stripes_step n k bs (get_or stripes k []) a.first a.second a.third a.fourth b.first b.second b.third b.fourth c.loop-stripe-test.true (λ j h. chunk_word 8 j 32 n k bs stripes chunks c.loop-stripe-test.true h) e.first e.second e.third e.fourth
    ∙ c.loop-stripe.invariant

pub returns : goal.returns
returns c =
    let n = length c.as_chunks.result.0.now in
    let k = c.loop-stripe.stripe-index in
    let a = c.loop-stripe.accumulators in
    let done : n - k ≤ 0 = omega arith in
    cc (c.as_chunks.ensures.front_len, stripes_none (n - k) (k * 32) c.args.bytes.now a.first a.second a.third a.fourth done)
