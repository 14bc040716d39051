-- `solve_diagonals`: each turn does the next step. The invariant: the steps still to come, done to
-- the stripe as it is, give what all steps give to the stripe as it was.
use mathlib.Core.Path.{refl, sym, ◌∙◌}
use Prim.Native.Nat.{◌+◌}
use native.Mathlib.Omega.{arith}
use Rattle.stripe_cells.proofs.LoopLaws.{rest_first, rest_turn, rest_last}
use Rattle.stripe_cells.proofs.OrdinaryLaws.{parity_own}
use Rattle.stripe_cells.proofs.solve_diagonals.Goals as goal

pub loop-number-init : goal.loop-number-init
loop-number-init c = let w = c.args.geometry in (refl, rest_first w.array.width w.array.disks w.cell_size (w.array.disks + 1) 1 c.args.stripe.now)

pub solve-requires : goal.solve-requires
solve-requires c = let w = c.args.geometry in record { stripe_len = c.loop-number.invariant.0 ∙ c.requires; ordinary = parity_own w.array.width w.array.disks c.loop-number.number (omega arith) }

pub loop-number-preserved : goal.loop-number-preserved
loop-number-preserved c =
    let w = c.args.geometry in
    let l = c.loop-number in
    let v = c.solve in
    (omega (arith, l.invariant.0), rest_turn w.array.width w.array.disks w.cell_size (w.array.disks + 1) 1 l.number l.stripe v.new.stripe (omega arith) v.ensures ∙ l.invariant.1)

pub returns : goal.returns
returns c =
    let w = c.args.geometry in
    let l = c.loop-number in
    sym (rest_last w.array.width w.array.disks w.cell_size (w.array.disks + 1) 1 l.number l.stripe (omega arith)) ∙ l.invariant.1
