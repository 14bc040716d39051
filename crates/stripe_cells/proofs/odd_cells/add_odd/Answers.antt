-- `add_odd`: list after list. The invariant: what is in the cell, with the odd cells still to come, is
-- the XOR of all.
use mathlib.Core.Path.{refl}
use mathlib.Core.Logic.{inr}
use native.Mathlib.Omega.{arith}
use borrow.Author.Rules.{rules}
use Rattle.xor.proofs.SourceLaws.{bytes_all}
use Rattle.stripe_cells.proofs.GatherLaws.{gathering_none, gathering_next, gathering_end, still_marked}
use Rattle.stripe_cells.proofs.SolvedLaws.{from_none}
use Rattle.stripe_cells.proofs.odd_cells.add_odd.Goals as goal

pub loop-next-init : goal.loop-next-init
loop-next-init c = (refl, gathering_none c.requires.0 c.args.from c.requires.1 (bytes_all c.args.stripe.now (search rules)))

pub loop-next-preserved : goal.loop-next-preserved
loop-next-preserved c =
    let l = c.loop-next in
    let a = c.args in
    (omega (arith, l.invariant.0), gathering_next c.requires.0 c.push.new.self (from_none _ _ _ c.clear.ensures c.push.ensures) l.invariant.1 c.gather_list-next.ensures)

pub gather_list-next-requires : goal.gather_list-next-requires
gather_list-next-requires c =
    let l = c.loop-next in
    record {
      marked = (still_marked l.stripe l.invariant.0 c.requires.0, l.invariant.1.within);
      room = (omega arith, omega arith);
      own = inr (from_none _ _ _ c.clear.ensures c.push.ensures);
    }

pub loop-next-smaller : goal.loop-next-smaller
loop-next-smaller c = omega (arith, c.gather_list-next.ensures.on (omega arith), c.gather_list-next.ensures.within)

pub returns : goal.returns
returns c = gathering_end c.requires.0 (omega arith) c.loop-next.invariant.1
