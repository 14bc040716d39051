-- `gather`: the first list block by block, and the others added.
use Rattle.std.proofs.Common.{rules, ◌≡◌, drop}
use mathlib.Core.Path.{ap, ◌∙◌}
use lib.ListN.{length}
use Rattle.mathematics.specs.Xor.{xor_l}
use Rattle.xor.specs.Parts.{xor_offsets}
use Rattle.xor.proofs.BlockLaws.{both_lists}
use Rattle.xor.proofs.into_slice.gather.Goals as goal

pub returns : goal.returns
returns c =
    let o = c.args in
    let n = length o.dst.now in
    let x = c.gather_list.new.dst in
    let rest : c.add_all.new.dst ≡ xor_l x (xor_offsets n o.t.now (drop c.min.result o.at.now)) = search rules in
    both_lists n c.min.result o.t.now o.at.now x c.add_all.new.dst c.requires.1.inside (c.gather_list.ensures ∙ ap (xor_offsets n o.t.now) c.split_at.ensures.front) rest
