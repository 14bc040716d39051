-- `set_word`: the marks of the set alone are odd, toggled from no mark at all.
use mathlib.Core.Path.{◌∙◌, ap}
use Rattle.rebuild_cells.proofs.WordLoops.{set_word_is}
use Rattle.rebuild_cells.proofs.MarkLoops.{none_marked}
use Rattle.stripe_cells.specs.Toggled.{toggled_all}
use Rattle.parity_sets.specs.ParitySets.{cells_of}
use Rattle.rebuild_cells.proofs.equations.set_word.Goals as goal

pub returns : goal.returns
returns c =
    let a = c.args.array in
    set_word_is a.width a.disks c.args.set c.args.cells.now c.toggle_set.new.marks c.marks_word.result c.requires.0
    (c.toggle_set.ensures ∙ ap (toggled_all (cells_of a.width a.disks c.args.set)) (none_marked a c.no_marks-marks.result c.cells.result c.no_marks-marks.ensures c.cells.ensures.0))
    c.marks_word.ensures
