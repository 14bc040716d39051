-- `compare_mended`: each turn writes the mark of the next piece.
use mathlib.Core.Path.{◌≡◌}
use mathlib.Core.List.{◌++◌}
use Prim.Native.Nat.{◌+◌, ◌-◌, ◌*◌}
use lib.ListN.{take}
use Rattle.unit_sums.specs.Sums.{fits}
use Rattle.unit_opening.specs.Opening.{marks_from}
use Rattle.unit_opening.proofs.opening.compare_mended.Given as goal

abbrev pub invariant-loop-x : goal.invariant-loop-x
invariant-loop-x l =
    let b = l.unit.block in
    let n = b.array.width * (b.array.disks + 2) in
    let f = fits b.array.width l.unit.piece_bytes b.label.name.now b.label.unit b.bytes.now l.cells in
    take l.x l.marks ++ marks_from (n - l.x) l.x f ≡ marks_from n 0 f
