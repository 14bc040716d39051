-- `group_start`: the groups before a stripe of the film have fewer than 2^62 bytes.
use Rattle.std.proofs.Common.{ℕ, ◌+◌, ◌*◌, ap, arith}
use Rattle.image_layout.specs.Layouts.{group_start}
use Rattle.image_layout.proofs.SmallLaws.{start_small}
use Rattle.image_layout.proofs.accepted.AcceptedLayout.group_start.Goals as goal

pub overflow_mul-result : goal.overflow_mul-result
unfolding group_start
overflow_mul-result c = rw c.group_bytes.ensures (omega (arith, start_small c.args.self.layout c.args.self.within c.args.group c.requires))

pub overflow_add-result : goal.overflow_add-result
unfolding group_start
overflow_add-result c = rw c.group_bytes.ensures (omega (arith, start_small c.args.self.layout c.args.self.within c.args.group c.requires))

pub returns : goal.returns
unfolding group_start
returns c = ap (λ (x : ℕ). 4096 + c.args.group * x) c.group_bytes.ensures
