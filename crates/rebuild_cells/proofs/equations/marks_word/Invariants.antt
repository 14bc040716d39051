-- `marks_word`: the word is that of the cells from i on.
use mathlib.Core.Path.{◌≡◌}
use lib.ListN.{drop}
use Rattle.rebuild_cells.specs.Words.{marks_word}
use Rattle.rebuild_cells.proofs.equations.marks_word.Given as goal

abbrev pub invariant-loop-i : goal.invariant-loop-i
invariant-loop-i l = l.word ≡ marks_word (drop l.i l.cells) l.marks
