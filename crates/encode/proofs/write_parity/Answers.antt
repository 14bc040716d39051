-- `write_parity`: the groups give the encoded stripe; and so do P by the row sets and then Q by the
-- diagonal sets.
use Rattle.encode.proofs.EncodeLaws.{both_kinds}
use Rattle.encode.proofs.write_parity.Goals as goal

pub returns-else-disks-ge-GROUPED_DISKS : goal.returns-else-disks-ge-GROUPED_DISKS
returns-else-disks-ge-GROUPED_DISKS c =
    let w = c.args.geometry in
    both_kinds w.array.width w.array.disks w.cell_size c.args.stripe.now c.solve_rows.new.stripe c.solve_diagonals.new.stripe c.solve_rows.ensures c.solve_diagonals.ensures
