-- `first_fit`: no disk so far fits, and the first that does ends the loop.
use native.Mathlib.Omega.{arith}
use lib.Dec.{eqb}
use borrow.Author.Tests.{eq-eqb, ne_eqb}
use Rattle.scrub.proofs.FitLaws.{first_all, first_here, first_after, first_none}
use Rattle.scrub.proofs.suspects.first_fit.Goals as goal

pub loop-disk-init : goal.loop-disk-init
loop-disk-init c = let w = c.args.geometry in first_all w.array.width w.array.disks w.cell_size c.args.stripe.now

pub returns-then-passed-array : goal.returns-then-passed-array
returns-then-passed-array c =
    let w = c.args.geometry in
    let v = c.equations_passed-passed in
    let l = c.loop-disk in
    (omega arith, first_here w.array.width w.array.disks w.cell_size c.args.stripe.now l.disk (eqb v.result w.array.width) (omega arith) v.ensures.1 (eq-eqb v.result w.array.width c.if-passed-array.true) l.invariant)

pub loop-disk-preserved : goal.loop-disk-preserved
loop-disk-preserved c =
    let w = c.args.geometry in
    let v = c.equations_passed-passed in
    let l = c.loop-disk in
    first_after w.array.width w.array.disks w.cell_size c.args.stripe.now l.disk (eqb v.result w.array.width) (omega arith) v.ensures.1 (ne_eqb v.result w.array.width c.if-passed-array.false) l.invariant

pub returns : goal.returns
returns c =
    let w = c.args.geometry in
    let l = c.loop-disk in
    omega (arith, first_none w.array.width w.array.disks w.cell_size c.args.stripe.now l.disk (omega arith) l.invariant)
