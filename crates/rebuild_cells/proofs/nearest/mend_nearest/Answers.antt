-- `mend_nearest`: each turn mends a cell of those left.
use mathlib.Core.Path.{◌≡◌}
use mathlib.Core.Bool.{true}
use mathlib.Core.List.{List}
use Prim.Native.Nat.{ℕ}
use native.Mathlib.Omega.{arith}
use lib.ListN.{get_or}
use mir.Val.{Fits}
use mir.Syntax.{w8}
use Rattle.xor.proofs.SourceLaws.{bytes_all}
use Rattle.liberation.specs.Stripes.Stripes.{is_stripe}
use Rattle.liberation.proofs.Stripes.SizedLaws.{sized_long}
use Rattle.liberation.proofs.Stripes.Solving.{stripe_of}
use Rattle.refusals.specs.declared.array.Geometry.{Geometry}
use Rattle.refusals.specs.StripeOf.{IsStripeOf}
use Rattle.refusals.proofs.WithinLimits.{in_array, sized}
use Rattle.rebuild_cells.specs.RowLists.{sums_of}
use Rattle.rebuild_cells.proofs.NearestTurns.{turn_start, turn_falls, turn_next, turn_end}
use Rattle.rebuild_cells.proofs.nearest.mend_nearest.Goals as goal

-- the stripe is a stripe
stripe : (g : Geometry) (t : List ℕ) → IsStripeOf g t → ((j : ℕ) → Fits w8 (get_or t j 0)) → is_stripe g.array.width g.array.disks g.cell_size t ≡ true
stripe g t e b = stripe_of g.array.width g.array.disks g.cell_size t (sized_long g.array.width g.array.disks g.cell_size t (sized g t e)) (bytes_all t b)

pub loop-next-init : goal.loop-next-init
loop-next-init c =
    let a = c.args in
    let g = a.geometry in
    turn_start g.array.width g.array.disks g.cell_size (in_array g.array) a.cells.now (sums_of a.rows.now) a.stripe.now c.requires.1 (stripe g a.stripe.now c.requires.0 c.slice_known-2-1.given) a.near.now c.requires.2

pub loop-next-smaller : goal.loop-next-smaller
loop-next-smaller c =
    let a = c.args in
    let g = a.geometry in
    let l = c.loop-next in
    turn_falls g.array.width g.array.disks g.cell_size (in_array g.array) a.cells.now (sums_of a.rows.now) a.stripe.now c.requires.1 (stripe g a.stripe.now c.requires.0 c.slice_known-2-1.given) l.near l.stripe l.left c.in-Some.next c.bit_of-left.result l.invariant (omega (arith, c.in-Some.ensures.0, l.invariant.near_long)) c.in-Some.ensures.1 c.bit_of-left.ensures

pub loop-next-preserved : goal.loop-next-preserved
loop-next-preserved c =
    let a = c.args in
    let g = a.geometry in
    let l = c.loop-next in
    turn_next g.array.width g.array.disks g.cell_size (in_array g.array) a.cells.now (sums_of a.rows.now) a.stripe.now c.requires.1 (stripe g a.stripe.now c.requires.0 c.slice_known-2-1.given) l.near l.stripe l.left c.in-Some.next c.bit_of-left.result l.invariant (omega (arith, c.in-Some.ensures.0, l.invariant.near_long)) c.in-Some.ensures.1 c.bit_of-left.ensures
    c.renew.new.near c.mend_by.new.stripe c.mend_by.ensures c.mend_by.auto.stripe c.renew.ensures c.renew.auto.near

pub returns : goal.returns
returns c =
    let a = c.args in
    let g = a.geometry in
    let l = c.loop-next in
    turn_end g.array.width g.array.disks g.cell_size (in_array g.array) a.cells.now (sums_of a.rows.now) a.stripe.now c.requires.1 (stripe g a.stripe.now c.requires.0 c.slice_known-2-1.given) l.near l.stripe l.left l.invariant c.in_default.ensures
