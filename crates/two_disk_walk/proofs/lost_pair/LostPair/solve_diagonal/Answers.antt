-- `solve_diagonal`: the diagonal crosses disk y in an ordinary cell, which is solved.
use mathlib.Core.Path.{sym, ap, ◌∙◌}
use Prim.Native.Nat.{ℕ, ◌+◌, ◌%◌}
use Rattle.liberation.specs.Sets.{place, diagonal_set}
use Rattle.liberation.specs.Stripes.Stripes.{solved}
use Rattle.stripe_cells.proofs.OrdinaryLaws.{diagonal_own}
use Rattle.two_disk_walk.proofs.lost_pair.LostPair.solve_diagonal.Goals as goal

pub solve-requires : goal.solve-requires
solve-requires c =
    let s = c.args.self.now in
    let g = s.geometry in
    let n = c.crossing-next in
    record {
      stripe_len = c.requires.0;
      ordinary = diagonal_own g.array.width g.array.disks n.result.number s.y n.result.row n.ensures.number.1 n.ensures.row.1 s.y_is_data (n.ensures.row.0 ∙ ap (λ (i : ℕ). (i + s.y) % g.array.width) (sym n.ensures.number.0));
    }

pub returns-clause-cell : goal.returns-clause-cell
returns-clause-cell c =
    let s = c.args.self.now in
    let g = s.geometry in
    c.solve.ensures ∙ ap (λ (i : ℕ). solved g.cell_size (place g.array.width c.crossing-next.result.row s.y) (diagonal_set g.array.width g.array.disks i) c.args.stripe.now) c.crossing-next.ensures.number.0
