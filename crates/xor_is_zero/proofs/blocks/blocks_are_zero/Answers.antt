-- `blocks_are_zero`: wide blocks, then blocks, then the rest, if there is one.
use mathlib.Core.Path.{sym, ap, ◌∙◌}
use mathlib.Core.Bool.{true, false}
use mathlib.Core.List.{List}
use Prim.Native.Nat.{ℕ, ◌-◌, ◌%◌}
use native.Mathlib.Omega.{arith}
use lib.ListN.{replicate}
use borrow.Author.Tests.{eq-eqb}
use Rattle.mathematics.specs.Lists.{same}
use Rattle.xor.specs.Parts.{xor_offsets}
use Rattle.xor.proofs.BlockLaws.{tail_is}
use Rattle.xor.proofs.ZeroLaws.{zero_none}
use Rattle.xor_is_zero.proofs.LastLaws.{first_turn, both_turns}
use Rattle.xor_is_zero.proofs.blocks.blocks_are_zero.Goals.{then-whole_blocks_are_zero, else-whole_blocks_are_zero}
use Rattle.xor_is_zero.proofs.blocks.blocks_are_zero.Goals as goal

pub returns-then-whole-n : goal.returns-then-whole-n
returns-then-whole-n c =
    let a = c.args in
    let wide = a.n - a.n % 128 in
    let whole = a.n - a.n % 64 in
    elim c.if-whole_blocks_are_zero.branch [
      | then-whole_blocks_are_zero w ↦
          let second = w.whole_blocks_are_zero-then-whole_blocks_are_zero in
          eq-eqb whole a.n c.if-whole-n.true
          ∙ sym (both_turns wide whole a.n a.t.now a.at.now (omega arith) (omega arith) c.requires.0 c.requires.1.inside _ _ true true c.whole_blocks_are_zero.ensures w.if-whole_blocks_are_zero.true second.ensures (cc)
          ∙ zero_none whole a.n a.t.now a.at.now (omega arith))
      | else-whole_blocks_are_zero w ↦ absurd (cc)
    ]

pub returns-else-whole-n : goal.returns-else-whole-n
returns-else-whole-n c =
    let a = c.args in
    let wide = a.n - a.n % 128 in
    let whole = a.n - a.n % 64 in
    elim c.if-whole_blocks_are_zero.branch [
      | then-whole_blocks_are_zero w ↦
          let second = w.whole_blocks_are_zero-then-whole_blocks_are_zero in
          c.rest_is_zero.ensures
          ∙ ap (λ (u : List ℕ). same (xor_offsets (a.n - whole) u a.at.now) (replicate (a.n - whole) 0)) (tail_is whole a.t.now)
          ∙ sym (both_turns wide whole a.n a.t.now a.at.now (omega arith) (omega arith) c.requires.0 c.requires.1.inside _ _ true true c.whole_blocks_are_zero.ensures w.if-whole_blocks_are_zero.true second.ensures (cc))
      | else-whole_blocks_are_zero w ↦ absurd (cc)
    ]

pub returns-else-whole_blocks_are_zero-2 : goal.returns-else-whole_blocks_are_zero-2
returns-else-whole_blocks_are_zero-2 c =
    let a = c.args in
    let wide = a.n - a.n % 128 in
    let whole = a.n - a.n % 64 in
    elim c.if-whole_blocks_are_zero.branch [
      | then-whole_blocks_are_zero w ↦
          let second = w.whole_blocks_are_zero-then-whole_blocks_are_zero in
          c.if-whole_blocks_are_zero-2.false
          ∙ sym (both_turns wide whole a.n a.t.now a.at.now (omega arith) (omega arith) c.requires.0 c.requires.1.inside _ _ true false c.whole_blocks_are_zero.ensures w.if-whole_blocks_are_zero.true second.ensures (cc))
      | else-whole_blocks_are_zero w ↦
          c.if-whole_blocks_are_zero-2.false
          ∙ sym (first_turn wide whole a.n a.t.now a.at.now (omega arith) (omega arith) c.requires.0 c.requires.1.inside _ false c.whole_blocks_are_zero.ensures w.if-whole_blocks_are_zero.false)
    ]
