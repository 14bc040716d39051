-- `judged_reads`: refusals 1, 13, 3 and 5, then the steps, over marks for as many cells as the stripe
-- has.
use Rattle.std.proofs.Common.{◌*◌, ◌+◌, [], ap, ◌∙◌}
use lib.ListN.{take}
use Rattle.liberation.proofs.MarkLists.{take_marks, cells_most}
use Rattle.judge.proofs.judged_reads.Goals as goal

pub judge_steps-requires-clause-marks_value : goal.judge_steps-requires-clause-marks_value
judge_steps-requires-clause-marks_value c =
    let a = c.in_ok-array.array in
    let n = a.width * (a.disks + 2) in
    ap (λ k. take k c.no_marks-marks.result) c.cells.ensures.0 ∙ ap (take n) c.no_marks-marks.ensures ∙ take_marks n 1023 0 [] (cells_most a.width a.disks a.widest a.within)
