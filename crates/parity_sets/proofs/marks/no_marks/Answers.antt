-- `no_marks`: no cell is among none, so every byte is 0.
use mathlib.Core.Path.{refl}
use Rattle.liberation.specs.Plans.{marks_from}
use Rattle.parity_sets.proofs.marks.no_marks.Goals as goal

pub returns : goal.returns
unfolding marks_from
returns c = refl
