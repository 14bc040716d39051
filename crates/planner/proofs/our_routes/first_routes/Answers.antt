-- `first_routes`: row f, and for f > 0 a second row, are the rows that start with a diagonal.
use Rattle.std.proofs.Common.{List, ℕ, ap, ap₂, ◌∙◌}
use lib.ListN.{set}
use Rattle.planner.proofs.RouteLaws.{first_only, first_both}
use Rattle.planner.proofs.our_routes.first_routes.Goals as goal

pub returns-then-disk-ne0 : goal.returns-then-disk-ne0
returns-then-disk-ne0 c =
    let a = c.args in
    let t = c.take_diagonal.ensures in
    let u = c.take_diagonal-then-disk-ne0.ensures in (
      u.array ∙ t.array ∙ c.all-routes.ensures.0,
      u.rows ∙ ap₂ (λ (rs : List ℕ) (i : ℕ). set rs i 2) (t.rows ∙ ap (λ (rs : List ℕ). set rs a.disk 2) c.all-routes.ensures.1) c.half_of.ensures.0 ∙ first_both a.array.width a.disk c.if-disk-ne0.true,
    )

pub returns-else-disk-ne0 : goal.returns-else-disk-ne0
returns-else-disk-ne0 c =
    let a = c.args in
    let t = c.take_diagonal.ensures in
    (t.array ∙ c.all-routes.ensures.0, t.rows ∙ ap (λ (rs : List ℕ). set rs a.disk 2) c.all-routes.ensures.1 ∙ first_only a.array.width a.disk c.if-disk-ne0.false)
