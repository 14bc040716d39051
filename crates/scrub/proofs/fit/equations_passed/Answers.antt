-- `equations_passed`: the equations so far hold, and the first that does not ends the loop. From
-- `from` on and round every number comes in its turn.
use mathlib.Core.Path.{◌≡◌, ap, ◌∙◌}
use mathlib.Core.Bool.{not}
use Prim.Native.Nat.{◌+◌, ◌%◌}
use native.Mathlib.Omega.{arith}
use borrow.Author.Rules.{rules}
use Rattle.liberation.proofs.DiagonalRows.{row_below}
use Rattle.liberation.specs.Scrub.Survivors.{equation_holds}
use Rattle.xor.proofs.SourceLaws.{bytes_all}
use Rattle.mathematics.proofs.AllLaws.{all_start, all_more}
use Rattle.scrub.proofs.EquationTests.{one_refuses, none_refuses}
use Rattle.scrub.proofs.fit.equations_passed.Goals as goal

pub loop-passed-init : goal.loop-passed-init
loop-passed-init c = let a = c.args in let w = a.geometry in all_start (λ j. equation_holds w.array.width w.array.disks w.cell_size a.disk a.stripe.now ((a.from + j) % w.array.width))

pub equation_holds-requires : goal.equation_holds-requires
equation_holds-requires c =
    let a = c.args in
    record { stripe_len = c.requires.stripe_len; numbered = (c.requires.numbered.0, row_below a.geometry.array.width a.from c.loop-passed.passed c.row_on-number.result c.requires.numbered.1 (c.row_on-number.ensures (omega arith))) }

pub returns-then-not-equation_holds : goal.returns-then-not-equation_holds
returns-then-not-equation_holds c =
    let a = c.args in
    let w = a.geometry in
    let v = c.equation_holds in
    one_refuses w.array.width w.array.disks w.cell_size a.disk a.from a.stripe.now w.array.one_of_ten w.array.within c.requires.numbered.0 c.requires.stripe_len (bytes_all a.stripe.now (search rules)) c.requires.numbered.1 c.loop-passed.passed v.result (omega arith) (v.ensures ∙ ap (equation_holds w.array.width w.array.disks w.cell_size a.disk a.stripe.now) (c.row_on-number.ensures (omega arith))) (ap not c.if-not-equation_holds.true)

pub loop-passed-preserved : goal.loop-passed-preserved
loop-passed-preserved c =
    let a = c.args in
    let w = a.geometry in
    let v = c.equation_holds in
    all_more c.loop-passed.passed (λ j. equation_holds w.array.width w.array.disks w.cell_size a.disk a.stripe.now ((a.from + j) % w.array.width)) v.result c.loop-passed.invariant
    (v.ensures ∙ ap (equation_holds w.array.width w.array.disks w.cell_size a.disk a.stripe.now) (c.row_on-number.ensures (omega arith)))
    (ap not c.if-not-equation_holds.false)

pub returns : goal.returns
returns c =
    let a = c.args in
    let w = a.geometry in
    let e : c.loop-passed.passed ≡ w.array.width = omega arith in
    none_refuses w.array.width w.array.disks w.cell_size a.disk a.from a.stripe.now w.array.one_of_ten w.array.within c.requires.numbered.0 c.requires.stripe_len (bytes_all a.stripe.now (search rules)) c.requires.numbered.1 w.array.width (omega arith) (omega arith) (rw e at c.loop-passed.invariant)
