-- `find_missing`: each turn writes the mark of the next piece; there is room for all.
use mathlib.Core.Path.{◌≡◌}
use mathlib.Core.List.{◌++◌}
use Prim.Native.Nat.{◌+◌, ◌-◌, ◌*◌}
use lib.ListN.{length, take}
use Rattle.unit_opening.specs.Opening.{marks_from, is_present}
use Rattle.unit_opening.proofs.opening.find_missing.Given as goal

abbrev pub invariant-loop-x : goal.invariant-loop-x
invariant-loop-x l =
    let b = l.unit.block in
    let n = b.array.width * (b.array.disks + 2) in
    let f = is_present b.array.width l.unit.piece_bytes b.label.name.now b.label.unit b.bytes.now l.marks l.cells in
    (length l.missing ≡ 1023) × (take l.x l.missing ++ marks_from (n - l.x) l.x f ≡ marks_from n 0 f)
