-- `up_diagonals`: each turn does the next step. The invariant: the steps still to come, done to the
-- stripe as it is, give what all steps give to the stripe as it was.
use mathlib.Core.Path.{refl, sym, ap, ◌∙◌}
use Prim.Native.Nat.{ℕ, ◌+◌, ◌%◌}
use native.Mathlib.Omega.{arith}
use Rattle.liberation.proofs.RowSteps.{ordinary_row}
use Rattle.stripe_cells.proofs.OrdinaryLaws.{diagonal_own}
use Rattle.rebuild_two.proofs.UpLaws.{up_first, up_turn, up_last}
use Rattle.rebuild_two.proofs.with_parity.up_diagonals.Goals as goal

pub loop-row-init : goal.loop-row-init
loop-row-init c = let g = c.args.geometry in (refl, up_first g.array.width g.array.disks g.cell_size c.args.disk c.args.stripe.now)

pub solve-requires : goal.solve-requires
solve-requires c =
    let p = c.args.geometry.array.width in
    let f = c.args.disk in
    let l = c.loop-row in
    let n = c.diagonal_of in
    record {
      stripe_len = l.invariant.0 ∙ c.requires.long;
      ordinary = diagonal_own p c.args.geometry.array.disks n.result f l.row n.ensures.1 (omega arith) (omega arith) (sym (ordinary_row p f l.row (omega arith) (omega arith)) ∙ ap (λ (i : ℕ). (i + f) % p) (sym n.ensures.0));
    }

pub loop-row-preserved : goal.loop-row-preserved
loop-row-preserved c =
    let v = c.solve in
    let l = c.loop-row in
    let g = c.args.geometry in
    (v.auto.stripe ∙ l.invariant.0, up_turn g.array.width g.array.disks g.cell_size c.args.disk l.row c.diagonal_of.result l.stripe v.new.stripe c.diagonal_of.ensures.0 (omega arith) v.ensures ∙ l.invariant.1)

pub returns : goal.returns
returns c =
    let l = c.loop-row in
    let g = c.args.geometry in
    sym (up_last g.array.width g.array.disks g.cell_size c.args.disk l.row l.stripe (omega arith)) ∙ l.invariant.1
