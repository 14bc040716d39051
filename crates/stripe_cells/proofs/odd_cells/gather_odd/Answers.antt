-- `gather_odd`: the first list, and the rest added.
use mathlib.Core.Logic.{inl}
use native.Mathlib.Omega.{arith}
use Rattle.stripe_cells.proofs.GatherLaws.{all_gathered, still_marked}
use Rattle.stripe_cells.proofs.odd_cells.gather_odd.Goals as goal

pub gather_list-next-requires : goal.gather_list-next-requires
gather_list-next-requires c = record { marked = (c.requires, omega arith); room = (omega arith, omega arith); own = inl c.new-list.ensures }

pub add_odd-requires : goal.add_odd-requires
add_odd-requires c =
    let g = c.gather_list-next in
    (still_marked g.new.stripe (omega arith) c.requires, g.ensures.within, omega arith, omega arith)

pub returns : goal.returns
returns c =
    let g = c.gather_list-next in
    let r = c.add_odd in
    all_gathered c.requires g.new.stripe r.new.stripe c.new-list.result c.new-list.ensures g.ensures r.ensures
