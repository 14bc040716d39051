-- `extend_from_slice`: the text replaces the first of the zeros behind the old one.
use mathlib.Core.Path.{◌∙◌}
use Prim.Native.Nat.{◌+◌, ◌-◌}
use native.Mathlib.Omega.{arith}
use Rattle.std.proofs.Common.{rules}
use lib.ListN.{length}
use Rattle.std.proofs.lemmas.Slice.{drop-put_mid}
use Rattle.text.proofs.BufferLaws.{zeros_left}
use Rattle.text.proofs.buffer.Buffer.extend_from_slice.Goals as goal

pub invariant_of-self : goal.invariant_of-self
invariant_of-self g c =
    let s = c.self.inside in
    let end = s.length + length c.args.text.now in (
      search rules,
      drop-put_mid s.length (end - s.length) s.bytes _ end (search rules) (search rules) (search rules) ∙ zeros_left s.bytes g.row.SIZE s.length end (omega arith) c.self.invariant.1,
    )
