-- `diagonals_are_clean`: the sets so far are clean, and the first that is not ends the loop.
use mathlib.Core.Path.{sym, ap}
use mathlib.Core.Bool.{not}
use native.Mathlib.Omega.{arith}
use Rattle.liberation.specs.Stripes.Stripes.{set_clean}
use Rattle.mathematics.proofs.AllLaws.{all_start, all_more, all_fails, all_seen}
use Rattle.scrub.proofs.clean.diagonals_are_clean.Goals as goal

pub loop-number-init : goal.loop-number-init
loop-number-init c = let w = c.args.geometry in all_start (λ j. set_clean w.array.width w.array.disks w.cell_size c.args.stripe.now 1 j)

pub returns-then-not-diagonal_is_clean : goal.returns-then-not-diagonal_is_clean
returns-then-not-diagonal_is_clean c =
    let w = c.args.geometry in
    let v = c.diagonal_is_clean in
    sym (all_fails w.array.width c.loop-number.number (λ j. set_clean w.array.width w.array.disks w.cell_size c.args.stripe.now 1 j) v.result (omega arith) v.ensures (ap not c.if-not-diagonal_is_clean.true))

pub loop-number-preserved : goal.loop-number-preserved
loop-number-preserved c =
    let w = c.args.geometry in
    let v = c.diagonal_is_clean in
    all_more c.loop-number.number (λ j. set_clean w.array.width w.array.disks w.cell_size c.args.stripe.now 1 j) v.result c.loop-number.invariant v.ensures (ap not c.if-not-diagonal_is_clean.false)

pub returns : goal.returns
returns c =
    let w = c.args.geometry in
    sym (all_seen w.array.width c.loop-number.number (λ j. set_clean w.array.width w.array.disks w.cell_size c.args.stripe.now 1 j) (omega arith) c.loop-number.invariant)
