-- `marks_word`: the cells come from the last one on, so each doubles the word before its bit.
use mathlib.Core.Path.{ap, ◌∙◌}
use Prim.Native.Nat.{ℕ, ◌+◌, ◌*◌, ◌-◌}
use native.Mathlib.Omega.{arith}
use lib.Bits.{and_mask}
use lib.ListN.{get_or}
use Rattle.rebuild_cells.proofs.WordLoops.{word_none, word_turn, word_room}
use Rattle.rebuild_cells.proofs.equations.marks_word.Goals as goal

pub loop-i-init : goal.loop-i-init
loop-i-init c = word_none c.args.cells.now c.args.marks.now _ (omega arith)

pub overflow_mul-word : goal.overflow_mul-word
overflow_mul-word c = let l = c.loop-i in omega (arith, word_room c.args.cells.now c.args.marks.now l.i l.word (omega arith) c.requires.0 l.invariant)

pub overflow_add-word : goal.overflow_add-word
overflow_add-word c = let l = c.loop-i in omega (arith, word_room c.args.cells.now c.args.marks.now l.i l.word (omega arith) c.requires.0 l.invariant, c.from.ensures, and_mask (get_or c.args.marks.now (get_or c.args.cells.now (l.i - 1) 0) 0) 1)

pub loop-i-preserved : goal.loop-i-preserved
loop-i-preserved c =
    let l = c.loop-i in
    let m = get_or c.args.marks.now (get_or c.args.cells.now (l.i - 1) 0) 0 in
    ap (λ (n : ℕ). 2 * l.word + n) (c.from.ensures ∙ and_mask m 1) ∙ word_turn c.args.cells.now c.args.marks.now l.i l.word (omega arith) (omega arith) l.invariant
