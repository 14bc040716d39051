-- `try_image`: the second label begins far below 2^64, and the image has 4,096 bytes after that.
use Rattle.std.proofs.Common.{rules, arith}
use Rattle.image_layout.specs.Layouts.{image_bytes}
use Rattle.image_layout.proofs.SmallLaws.{end_small}
use Rattle.image_layout.proofs.try_image.Goals as goal

pub overflow_add-result : goal.overflow_add-result
overflow_add-result c =
    let a = c.in_ok-accepted.accepted in
    omega (arith, c.end_at-end.ensures, end_small a.layout a.within)

pub returns-clause-image : goal.returns-clause-image
unfolding image_bytes
returns-clause-image c = search rules
