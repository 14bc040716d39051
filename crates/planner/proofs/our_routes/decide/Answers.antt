-- `decide`: the partner of the row decides.
use Rattle.std.proofs.Common.{◌≡◌, ◌-◌, ℕ, List, ap, sym, ◌∙◌}
use mathlib.Core.Bool.{false, false≢true}
use lib.Dec.{eqb}
use lib.ListN.{get_or, set}
use borrow.Author.Tests.{eq-eqb}
use Rattle.liberation.specs.Plans.{partner, decided}
use Rattle.planner.specs.declared.routes.Routes.{Routes}
use Rattle.planner.specs.RouteRecords.{rows_in, Becomes}
use Rattle.planner.proofs.RouteLaws.{partner_is, decided_self, decided_taken, decided_both}
use Rattle.planner.proofs.our_routes.decide.Goals as goal
use Rattle.planner.proofs.our_routes.decide.Goals.{then-partner-row, else-partner-row}

pub returns-then-takes_diagonal : goal.returns-then-takes_diagonal
returns-then-takes_diagonal c =
    let a = c.args in
    let q = partner_is a.routes.now.array c.array-array.result a.disk a.row c.diagonal_of.result c.array-array.ensures c.diagonal_of.ensures.0 in
    record {
      array = c.take_row.ensures.array;
      rows = c.take_row.ensures.rows ∙ elim c.if-partner-row.branch [ then-partner-row w ↦ decided_self _ _ _ _ _ q w.if-partner-row.true | else-partner-row w ↦ decided_taken _ _ _ _ _ q (sym w.takes_diagonal.ensures ∙ sym w.value-is ∙ c.if-takes_diagonal.true) ];
    }

-- row j takes a diagonal, and then its partner i the row set
both_set : (f j i : ℕ) (r : Routes) → i ≡ partner r.array.width f j → (i ≡ j → ⊥) → eqb (get_or (rows_in r) i 0) 2 ≡ false → (s t : Routes) → Becomes r s (set (rows_in r) j 2) → Becomes s t (set (rows_in s) i 1) → Becomes r t (decided r.array.width f j (rows_in r))
both_set f j i r q n e s t u v = record { array = v.array ∙ u.array; rows = v.rows ∙ ap (λ (rs : List ℕ). set rs i 1) u.rows ∙ decided_both _ _ _ _ _ q n e }

-- The search finds what the setters set by what it says, not by their names: so a wrong setter stops
-- at what it sets.
pub returns-else-takes_diagonal : goal.returns-else-takes_diagonal
returns-else-takes_diagonal c =
    let a = c.args in
    let i = c.array-array.result.width - 1 - c.diagonal_of.result in
    let q = partner_is a.routes.now.array c.array-array.result a.disk a.row c.diagonal_of.result c.array-array.ensures c.diagonal_of.ensures.0 in
    elim c.if-partner-row.branch [
      | then-partner-row w ↦ absurd (false≢true (sym c.if-takes_diagonal.false ∙ w.value-is ∙ eq-eqb _ _ w.if-partner-row.true))
      | else-partner-row w ↦ search (both_set a.disk a.row i a.routes.now q w.if-partner-row.false (sym w.takes_diagonal.ensures ∙ sym w.value-is ∙ c.if-takes_diagonal.false))
    ]
