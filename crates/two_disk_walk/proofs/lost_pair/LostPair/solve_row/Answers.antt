-- `solve_row`: the row set has an ordinary cell on disk x, which is solved.
use native.Mathlib.Omega.{arith}
use Rattle.stripe_cells.proofs.OrdinaryLaws.{row_own}
use Rattle.two_disk_walk.proofs.lost_pair.LostPair.solve_row.Goals as goal

pub solve-requires : goal.solve-requires
solve-requires c =
    let s = c.args.self.now in
    record { stripe_len = c.requires.0; ordinary = row_own s.geometry.array.width s.geometry.array.disks c.args.row s.x c.requires.1 (omega (arith, s.x_is_data)) }
