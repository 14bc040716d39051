-- `push`: the byte replaces the first of the zeros after the text.
use mathlib.Core.Path.{◌∙◌}
use Prim.Native.Nat.{◌+◌}
use native.Mathlib.Omega.{arith}
use Rattle.std.proofs.Common.{rules}
use Rattle.std.proofs.lemmas.List.{drop-set-lt}
use Rattle.text.proofs.BufferLaws.{zeros_left}
use Rattle.text.proofs.buffer.Buffer.push.Goals as goal

pub invariant_of-self : goal.invariant_of-self
invariant_of-self g c =
    let s = c.self.inside in
    let next = s.length + 1 in (
      search rules,
      drop-set-lt next s.bytes s.length c.args.byte (omega arith) ∙ zeros_left s.bytes g.row.SIZE s.length next (omega arith) c.self.invariant.1,
    )
