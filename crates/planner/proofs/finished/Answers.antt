-- `finished`: the marks of the first cells are zeros, as `mark_steps` wants them.
use Rattle.std.proofs.Common.{◌*◌, ◌+◌, [], ap, ◌∙◌}
use lib.ListN.{take}
use Rattle.liberation.proofs.MarkLists.{take_marks, cells_most}
use Rattle.planner.proofs.finished.Goals as goal

pub mark_steps-reads-requires : goal.mark_steps-reads-requires
mark_steps-reads-requires c =
    let a = c.args.array in
    let n = a.width * (a.disks + 2) in
    (c.requires.0, c.requires.1, ap (λ k. take k c.no_marks-marks.result) c.cells.ensures.0 ∙ ap (take n) c.no_marks-marks.ensures ∙ take_marks n 1023 0 [] (cells_most a.width a.disks a.widest a.within))
